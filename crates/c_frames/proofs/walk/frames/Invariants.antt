use Rattle.std.proofs.Common.{◌≡◌, ◌-◌, ◌++◌, Some}
use Rattle.c_frames.specs.Frames.{frames_from}
use Rattle.c_frames.specs.Programs.{program_view}
use Rattle.c_frames.proofs.walk.frames.Given as goal

abbrev pub invariant-loop : goal.invariant-loop
invariant-loop l = l.frames.items ++ frames_from (program_view l.program) l.depths l.memory (128 - l.counter) l.next
    ≡ frames_from (program_view l.program) l.depths l.memory 128 (Some l.fn.at)
