use Rattle.std.proofs.Common.{◌∙◌, ap}
use Rattle.debugger.proofs.Steps.{quick_follows, noted_follows, noted_refused}
use Rattle.debugger.proofs.Stamps.{stamped}
use Rattle.debugger.proofs.trail.make_step.Goals as goal

pub returns-then-quick_step-clause-ok : goal.returns-then-quick_step-clause-ok
returns-then-quick_step-clause-ok c = quick_follows _ _ (c.quick_step.ensures.made c.if-quick_step.true) (c.quick_step.ensures.stores c.if-quick_step.true).rest

pub returns-then-quick_step-clause-same : goal.returns-then-quick_step-clause-same
returns-then-quick_step-clause-same c = (c.quick_step.ensures.stores c.if-quick_step.true).same

pub returns-clause-ok : goal.returns-clause-ok
returns-clause-ok c =
    noted_follows c.step_noting-made.result c.step_noting-made.new.change _ _ _ (c.quick_step.ensures.not c.if-quick_step.false).0
    c.step_noting-made.ensures.ok c.step_noting-made.ensures.fits c.step_noting-made.ensures.undo

pub returns-clause-err : goal.returns-clause-err
returns-clause-err c = noted_refused c.step_noting-made.result _ _ _ (c.quick_step.ensures.not c.if-quick_step.false).0 c.step_noting-made.ensures.err

pub returns-clause-same : goal.returns-clause-same
returns-clause-same c =
    let none = c.quick_step.ensures.not c.if-quick_step.false in
    stamped _ _ _ _ _ _ (c.step_noting-made.ensures.undo ∙ ap (λ s. s.bus) none.0) (rw none.1 at c.stamp.ensures)
