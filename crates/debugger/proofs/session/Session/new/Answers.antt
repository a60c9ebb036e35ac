use Rattle.std.proofs.Common.{arith}
use Rattle.debugger.proofs.Stamps.{tells_first}
use Rattle.debugger.proofs.session.Session.new.Goals as goal

pub invariant_of-result : goal.invariant_of-result
invariant_of-result c =
    let told = c.in-Ok-new_course.ensures in
    (told.room, told.history, omega arith, tells_first _ _ _ _ c.new-4.ensures.now c.new-4.ensures.spare told.first)
