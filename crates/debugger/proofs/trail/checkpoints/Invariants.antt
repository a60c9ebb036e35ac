use Rattle.std.proofs.Common.{◌≡◌, ◌+◌, length}
use Rattle.debugger.proofs.trail.checkpoints.Given as goal

abbrev pub invariant-loop : goal.invariant-loop
invariant-loop l = record { count : length l.spare.items + 1 ≡ l.counter; room : l.spare.capacity ≡ l.size }
