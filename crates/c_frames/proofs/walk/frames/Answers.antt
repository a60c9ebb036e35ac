use Rattle.c_frames.proofs.Walked.{frame_more}
use Rattle.c_frames.specs.Programs.{program_view}
use Rattle.c_frames.proofs.walk.frames.Goals as goal

pub loop-preserved : goal.loop-preserved
loop-preserved c =
    frame_more (program_view c.args.program.now) c.args.depths.now c.args.memory.now 128 c.loop.counter c.loop.frames.items c.push.new.self.items _
    c.frame_at.result
    c.loop.next c.caller_of-next.result c.in-Some.at c.loop-test.true c.in-Some.is c.frame_at.ensures c.caller_of-next.ensures
    c.in_ok-push.ensures.items c.loop.invariant
