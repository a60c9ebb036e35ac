use Rattle.std.proofs.Common.{◌≡◌, length, replicate}
use Rattle.source_writer.proofs.table.no_labels.Given as goal

abbrev pub invariant-loop : goal.invariant-loop
invariant-loop l = record {
  none : l.table.items ≡ replicate l.counter 0;
  len : length l.table.items ≡ l.counter;
}
