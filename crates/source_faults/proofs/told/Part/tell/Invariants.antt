use Rattle.std.proofs.Common.{◌≡◌, ◌++◌}
use Rattle.model.specs.AllFaults.{told_by}
use Rattle.source_faults.specs.Views.{rule_of, judged_views}
use Rattle.source_faults.proofs.Telling.{so_on}
use Rattle.source_faults.proofs.told.Part.tell.Given as goal

abbrev pub invariant-loop-one : goal.invariant-loop-one
invariant-loop-one l = record {
  exact : so_on (rule_of l.self) l.faults.items l.one-index l.first l.second ≡ l.fn.faults.items
      ++ told_by (rule_of l.self) 1 (judged_views l.first) (judged_views l.second);
  count : l.number ≡ l.one-index;
}
