use Rattle.std.proofs.Common.{◌∙◌, sym, arith}
use Rattle.source_notes.proofs.LineSteps.{name_more, names_end}
use Rattle.source_notes.proofs.lines.names_of.Goals as goal

pub loop-line-preserved : goal.loop-line-preserved
loop-line-preserved c = name_more c.loop-line.number c.saturating_add-number.result c.loop-line.line-index _ c.args.lines.now _ _ c.loop-line-test.true
    c.saturating_add-number.ensures c.in_ok-push_name.ensures ∙ c.loop-line.invariant

pub returns : goal.returns
returns c = sym (names_end c.loop-line.number c.loop-line.line-index c.args.lines.now _ (omega arith)) ∙ c.loop-line.invariant
