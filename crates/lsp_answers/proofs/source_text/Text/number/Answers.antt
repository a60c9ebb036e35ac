use Rattle.std.proofs.Common.{arith}
use Rattle.lsp_answers.proofs.source_text.Text.number.Goals as goal

pub overflow_cast-result : goal.overflow_cast-result
overflow_cast-result c = omega (arith, c.if-line-lt4294967295.true)

pub overflow_add-result : goal.overflow_add-result
overflow_add-result c = omega (arith, c.if-line-lt4294967295.true)
