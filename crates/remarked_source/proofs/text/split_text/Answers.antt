use Rattle.std.proofs.Common.{◌∙◌, sym}
use Rattle.remarked_source.proofs.Chosen.{split, unsplit}
use Rattle.remarked_source.proofs.text.split_text.Goals as goal

pub returns-then-are_there-clause-text : goal.returns-then-are_there-clause-text
returns-then-are_there-clause-text c =
    split (λ v. v.items) c.args.profile c.args.image.now c.args.plain.items c.args.splits.now c.with_labels.result
    (sym c.are_there.ensures ∙ c.if-are_there.true) c.with_labels.ensures.text

pub returns-else-are_there-clause-text : goal.returns-else-are_there-clause-text
returns-else-are_there-clause-text c = unsplit c.args.profile c.args.image.now c.args.plain.items c.args.splits.now
    (sym c.are_there.ensures ∙ c.if-are_there.false)

pub returns-else-are_there-clause-denotes : goal.returns-else-are_there-clause-denotes
returns-else-are_there-clause-denotes c = λ plain. plain
