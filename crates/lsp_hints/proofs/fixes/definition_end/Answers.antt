use Rattle.std.proofs.Common.{arith}
use Rattle.lsp_hints.proofs.fixes.definition_end.Goals as goal

pub overflow_add-result : goal.overflow_add-result
overflow_add-result c = omega (arith, c.colon_of-colon.ensures.within)
