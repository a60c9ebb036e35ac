use Rattle.debugger.proofs.Quiet.{quiet_here}
use Rattle.debugger.proofs.course.Course.quiet_count.Goals as goal

pub returns : goal.returns
returns c = rw (← c.self.view_is) (quiet_here _ _ _ c.self.invariant.1)
