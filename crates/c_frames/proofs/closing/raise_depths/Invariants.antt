use Rattle.c_frames.proofs.Passes.{DepthsDone}
use Rattle.c_frames.specs.Closures.{AreDepthsClosed, depth_at}
use Rattle.c_frames.specs.Programs.{program_view}
use Rattle.c_frames.specs.Raising.{Raises}
use Rattle.c_frames.proofs.closing.raise_depths.Given as goal

abbrev pub invariant-loop-address : goal.invariant-loop-address
invariant-loop-address l = Raises (AreDepthsClosed (program_view l.program) (depth_at l.rests))
    (DepthsDone (program_view l.program) (depth_at l.rests) l.address)
    l.fn.depths.items l.depths.items l.has_changed
