use Rattle.std.proofs.Common.{arith}
use Rattle.lsp_answers.proofs.SaidSteps.{lines_said, one_line}
use Rattle.lsp_answers.proofs.said.push_lines.Goals as goal

pub loop-one-preserved : goal.loop-one-preserved
loop-one-preserved c = one_line c.args.uses.now c.loop-one.one-index _ c.loop-one.words.items _ _ (omega (arith, c.loop-one-test.true))
    c.in_ok-push_line.ensures c.loop-one.invariant

pub returns : goal.returns
returns c = lines_said c.args.uses.now c.loop-one.one-index c.loop-one.words.items c.args.words.now.items (omega (arith, c.loop-one-test.false))
    c.loop-one.invariant
