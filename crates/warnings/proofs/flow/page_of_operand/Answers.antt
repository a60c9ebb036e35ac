use Rattle.std.proofs.Common.{ap, ◌∙◌}
use Rattle.warnings.specs.Flow.{page_ended}
use Rattle.warnings.proofs.flow.page_of_operand.Goals as goal

pub returns-in-Pointer : goal.returns-in-Pointer
returns-in-Pointer c = rw c.in-Pointer.is (c.page_ended.ensures ∙ ap (λ r. page_ended r) c.value_at.ensures)
