use Rattle.c_frames.proofs.Passes.{IsRaising}
use Rattle.c_frames.specs.Closures.{AreDepthsClosed, depth_at}
use Rattle.c_frames.specs.Programs.{program_view}
use Rattle.c_frames.specs.Raising.{room}
use Rattle.c_frames.proofs.closing.depths.Given as goal

abbrev pub invariant-loop : goal.invariant-loop
invariant-loop l = IsRaising (AreDepthsClosed (program_view l.program) (depth_at l.rests)) l.table.items

abbrev pub decreases-loop : goal.decreases-loop
decreases-loop l = room l.table.items
