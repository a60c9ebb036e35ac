use Rattle.std.proofs.Common.{◌∙◌, sym}
use Rattle.remarked_source.proofs.Chosen.{joined, unjoined}
use Rattle.remarked_source.proofs.text.joined_text.Goals as goal

pub returns-then-has_text-clause-text : goal.returns-then-has_text-clause-text
returns-then-has_text-clause-text c =
    joined (λ v. v.items) c.args.profile c.args.image.now c.args.plain.items c.args.marks.now c.with_joined.result
    (sym c.has_text.ensures ∙ c.if-has_text.true) c.with_joined.ensures.text

pub returns-else-has_text-clause-text : goal.returns-else-has_text-clause-text
returns-else-has_text-clause-text c = unjoined c.args.profile c.args.image.now c.args.plain.items c.args.marks.now
    (sym c.has_text.ensures ∙ c.if-has_text.false)

pub returns-else-has_text-clause-denotes : goal.returns-else-has_text-clause-denotes
returns-else-has_text-clause-denotes c = λ plain. plain
