use Rattle.c_frames.proofs.Passes.{IsRaising}
use Rattle.c_frames.specs.Closures.{AreRestsClosed}
use Rattle.c_frames.specs.Programs.{program_view}
use Rattle.c_frames.specs.Raising.{room}
use Rattle.c_frames.proofs.closing.rests.Given as goal

abbrev pub invariant-loop : goal.invariant-loop
invariant-loop l = IsRaising (AreRestsClosed (program_view l.program)) l.table.items

abbrev pub decreases-loop : goal.decreases-loop
decreases-loop l = room l.table.items
