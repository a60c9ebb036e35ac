use Rattle.std.proofs.Common.{◌∙◌, sym}
use Rattle.remarked_source.specs.Views.{beside_view}
use Rattle.remarked_source.proofs.Chosen.{remarked, unremarked}
use Rattle.remarked_source.proofs.text.remarked_text.Goals as goal

pub returns-then-is_beside-clause-text : goal.returns-then-is_beside-clause-text
returns-then-is_beside-clause-text c =
    remarked (λ v. v.items) c.args.profile c.args.image.now c.args.plain.items (beside_view c.args.beside) c.with_comments.result
    (sym c.is_beside.ensures ∙ c.if-is_beside.true) c.with_comments.ensures.text

pub returns-else-is_beside-clause-text : goal.returns-else-is_beside-clause-text
returns-else-is_beside-clause-text c = unremarked c.args.profile c.args.image.now c.args.plain.items (beside_view c.args.beside)
    (sym c.is_beside.ensures ∙ c.if-is_beside.false)

pub returns-else-is_beside-clause-denotes : goal.returns-else-is_beside-clause-denotes
returns-else-is_beside-clause-denotes c = λ plain. plain
