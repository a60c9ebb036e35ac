use Rattle.std.proofs.Common.{ap, ◌∙◌}
use Rattle.warnings.specs.Vectors.{as_address, value_of_word}
use Rattle.warnings.proofs.vectors.value_of_word.Goals as goal

pub returns-in-Some : goal.returns-in-Some
unfolding value_of_word
returns-in-Some c = rw c.in-Some.is (c.as_address.ensures ∙ ap (λ r. as_address r) c.value_at.ensures)
