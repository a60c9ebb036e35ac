use Rattle.std.proofs.Common.{arith}
use Rattle.lsp_hints.proofs.operation.string_rest.Goals as goal

pub overflow_add-result : goal.overflow_add-result
overflow_add-result c = omega (arith, c.size_before_quote-inside.ensures.within)
