use Rattle.std.proofs.Common.{◌≡◌, false, length, replicate}
use Rattle.source_writer.proofs.flags.no_flags.Given as goal

abbrev pub invariant-loop : goal.invariant-loop
invariant-loop l = record {
  none : l.flags.items ≡ replicate l.counter false;
  len : length l.flags.items ≡ l.counter;
}
