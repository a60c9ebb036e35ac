use Rattle.std.proofs.Common.{◌∙◌, ◌-◌, arith, ap, sym}
use Rattle.lsp_answers.proofs.AboveSteps.{above_here, above_more, above_none}
use Rattle.lsp_answers.specs.Above.{is_comment}
use Rattle.source_notes.specs.Lines.{line_or_none, texts_of}
use Rattle.lsp_answers.proofs.above.above.Goals as goal

pub returns-then-not-is_comment : goal.returns-then-not-is_comment
returns-then-not-is_comment c =
    above_here (texts_of c.args.lines.now) c.loop-first.first _ (omega (arith, c.loop-first-test.true))
    (sym (ap is_comment (c.line_or_none.ensures ∙ ap line_or_none c.line_of.ensures)) ∙ sym c.is_comment.ensures ∙ c.if-not-is_comment.true)
    c.loop-first.invariant

pub loop-first-preserved : goal.loop-first-preserved
loop-first-preserved c =
    above_more (texts_of c.args.lines.now) c.loop-first.first (c.loop-first.first - 1) _ (omega (arith, c.loop-first-test.true))
    (sym (ap is_comment (c.line_or_none.ensures ∙ ap line_or_none c.line_of.ensures)) ∙ sym c.is_comment.ensures ∙ c.if-not-is_comment.false)
    c.loop-first.invariant

pub returns : goal.returns
returns c = above_none (texts_of c.args.lines.now) c.loop-first.first _ (omega (arith, c.loop-first-test.false)) c.loop-first.invariant
