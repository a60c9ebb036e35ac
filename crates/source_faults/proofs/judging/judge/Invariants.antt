use Rattle.std.proofs.Common.{◌≡◌, ◌++◌, drop, length}
use Rattle.model.specs.AllFaults.{judged_found, nothing_made}
use Rattle.model.specs.Names.{number_in}
use Rattle.source_faults.specs.Views.{found_all, judged_views, made_view}
use Rattle.source_faults.proofs.judging.judge.Given as goal

abbrev pub invariant-loop-line : goal.invariant-loop-line
invariant-loop-line l = record {
  exact : judged_views l.judged.items ++ judged_found l.map (number_in l.names) (made_view l.made) (found_all (drop l.line-index l.found))
      ≡ judged_found l.map (number_in l.names) nothing_made (found_all l.found);
  few : length l.judged.items ≡ l.line-index;
}
