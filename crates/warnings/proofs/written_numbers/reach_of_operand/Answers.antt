use Rattle.std.proofs.Common.{ap, ◌∙◌}
use Rattle.warnings.specs.Reaches.{reach_at}
use Rattle.warnings.proofs.written_numbers.reach_of_operand.Goals as goal

pub returns-in-Direct : goal.returns-in-Direct
returns-in-Direct c = rw c.in-Direct.is (c.reach_at.ensures ∙ ap (λ r. reach_at c.in-Direct.index r) c.value_at.ensures)
