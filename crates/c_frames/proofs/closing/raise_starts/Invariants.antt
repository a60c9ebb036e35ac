use Rattle.c_frames.proofs.Passes.{BegunTo}
use Rattle.c_frames.specs.Closures.{AreBegun}
use Rattle.c_frames.specs.Raising.{Raises}
use Rattle.c_frames.proofs.closing.raise_starts.Given as goal

abbrev pub invariant-loop-function : goal.invariant-loop-function
invariant-loop-function l = Raises (AreBegun l.functions) (BegunTo l.functions l.function-index) l.initial.depths.items l.depths.items l.has_changed
