use Rattle.std.proofs.Common.{arith}
use Rattle.lsp_hints.proofs.Gathered.{gathered, gathered_all}
use Rattle.lsp_hints.proofs.PaintSteps.{line_next, lines_end}
use Rattle.lsp_hints.proofs.paint.push_lines.Goals as goal

pub loop-index-preserved : goal.loop-index-preserved
loop-index-preserved c = gathered c.loop-index.paints.items _ _ _ _ _ c.in_ok-push_asked.ensures
    (line_next c.args.profile c.args.between c.loop-index.index c.args.lines.now _ (omega (arith, c.loop-index-test.true))) c.loop-index.invariant

pub returns : goal.returns
returns c = gathered_all c.loop-index.paints.items _ _ (lines_end c.args.profile c.args.between c.loop-index.index c.args.lines.now
    (omega (arith, c.loop-index-test.false))) c.loop-index.invariant
