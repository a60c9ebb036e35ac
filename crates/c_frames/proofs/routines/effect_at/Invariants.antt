use Rattle.std.proofs.Common.{◌≡◌, drop}
use Rattle.c_frames.specs.Routines.{effect_at}
use Rattle.c_frames.proofs.routines.effect_at.Given as goal

abbrev pub invariant-loop-routine : goal.invariant-loop-routine
invariant-loop-routine l = effect_at (drop l.routine-index l.routines) l.address ≡ effect_at l.routines l.address
