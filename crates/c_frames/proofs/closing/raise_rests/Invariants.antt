use Rattle.c_frames.proofs.Passes.{RestsDone}
use Rattle.c_frames.specs.Closures.{AreRestsClosed}
use Rattle.c_frames.specs.Programs.{program_view}
use Rattle.c_frames.specs.Raising.{Raises}
use Rattle.c_frames.proofs.closing.raise_rests.Given as goal

abbrev pub invariant-loop-count : goal.invariant-loop-count
invariant-loop-count l = Raises (AreRestsClosed (program_view l.program)) (RestsDone (program_view l.program) l.count) l.initial.rests.items
    l.rests.items l.has_changed
