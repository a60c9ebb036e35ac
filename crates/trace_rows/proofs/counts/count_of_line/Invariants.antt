use Rattle.std.proofs.Common.{◌≡◌, ◌-◌, ◌<◌}
use Rattle.std.specs.Prelude.{slice_index}
use Rattle.trace_rows.specs.Counts.{cycles_from}
use Rattle.trace_rows.proofs.counts.count_of_line.Given as goal

abbrev pub invariant-loop-offset : goal.invariant-loop-offset
invariant-loop-offset l = record {
  visits : l.count.visits ≡ slice_index l.tally.visits l.line.address;
  cycles : l.count.cycles ≡ cycles_from l.tally l.line.address (l.offset - 1);
  none : l.line.len < 1 → l.offset ≡ 1;
}
