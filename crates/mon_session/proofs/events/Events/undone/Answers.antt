use Rattle.std.proofs.Common.{arith}
use Rattle.mon_session.proofs.events.Events.undone.Goals as goal

pub overflow_cast-result : goal.overflow_cast-result
overflow_cast-result c = omega arith
