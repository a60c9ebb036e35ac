use Rattle.std.proofs.Common.{◌≡◌, replicate, length}
use Rattle.named_source.proofs.names.no_names.Given as goal

abbrev pub invariant-loop : goal.invariant-loop
invariant-loop l = record { size : length l.table.items ≡ l.counter; none : l.table.items ≡ replicate l.counter 0 }
