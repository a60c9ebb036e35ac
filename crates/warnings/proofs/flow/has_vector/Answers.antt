use Rattle.std.proofs.Common.{arith, sym, ◌∙◌}
use Rattle.warnings.specs.Flow.{is_vector}
use Rattle.warnings.proofs.Looking.{none_such, one_such}
use Rattle.warnings.proofs.flow.has_vector.Goals as goal

pub returns-then-is_vector : goal.returns-then-is_vector
returns-then-is_vector c = one_such (λ q. is_vector q) c.args.lines.now c.loop-one.one-index c.one-item.result c.loop-one-test.true c.one-item.is
    (sym c.is_vector.ensures ∙ c.if-is_vector.true)

pub returns : goal.returns
returns c = none_such (λ q. is_vector q) c.args.lines.now c.loop-one.one-index (omega (arith, c.loop-one-test.false)) c.loop-one.invariant
