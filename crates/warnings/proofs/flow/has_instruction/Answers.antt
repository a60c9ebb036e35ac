use Rattle.std.proofs.Common.{arith, sym, ◌∙◌}
use Rattle.warnings.specs.Flow.{is_instruction}
use Rattle.warnings.proofs.Looking.{none_such, one_such}
use Rattle.warnings.proofs.flow.has_instruction.Goals as goal

pub returns-then-is_instruction : goal.returns-then-is_instruction
returns-then-is_instruction c = one_such (λ q. is_instruction q) c.args.lines.now c.loop-one.one-index c.one-item.result c.loop-one-test.true
    c.one-item.is (sym c.is_instruction.ensures ∙ c.if-is_instruction.true)

pub returns : goal.returns
returns c = none_such (λ q. is_instruction q) c.args.lines.now c.loop-one.one-index (omega (arith, c.loop-one-test.false)) c.loop-one.invariant
