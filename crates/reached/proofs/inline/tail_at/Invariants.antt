use Rattle.std.proofs.Common.{◌≡◌, drop}
use Rattle.reached.specs.Reached.{tail_at}
use Rattle.reached.proofs.inline.tail_at.Given as goal

abbrev pub invariant-loop-routine : goal.invariant-loop-routine
invariant-loop-routine l = tail_at (drop l.routine-index l.routines) l.address ≡ tail_at l.routines l.address
