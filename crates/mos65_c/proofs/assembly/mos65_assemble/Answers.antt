use Rattle.std.proofs.Common.{Some, ap, ◌∙◌}
use Rattle.mos65_c.proofs.Refused.{assembled, source_refused, unheld}
use Rattle.mos65_c.proofs.assembly.mos65_assemble.Goals as goal

pub returns-in-Ok-new-clause-assembled : goal.returns-in-Ok-new-clause-assembled
returns-in-Ok-new-clause-assembled c closed right =
    let all = c.in-Ok-assembled.ensures in
    assembled _ _ c.in-Ok.ensures.ok.0 _ c.in-Ok-assembled.made _ c.none.ensures _
    (c.of.ensures ∙ ap (λ x. Some x) c.in-Ok-new.ensures.ok) all.text.ok all.text.faulty all.large

pub returns-in-Ok-assembled-clause-assembled : goal.returns-in-Ok-assembled-clause-assembled
returns-in-Ok-assembled-clause-assembled c closed right =
    let all = c.in-Ok-assembled.ensures in
    unheld _ _ c.in-Ok.ensures.ok.0 _ c.in-Ok-assembled.made _ c.none.ensures _ closed all.text.faulty all.large

pub returns-clause-assembled : goal.returns-clause-assembled
returns-clause-assembled c closed right =
    let all = c.in-Err-assembled.ensures in
    source_refused _ _ c.in-Ok.ensures.ok.0 _ c.in-Err-assembled.refusal _ closed c.number.result c.number.ensures
    all.text.refused all.text.only all.text.faulty all.large
