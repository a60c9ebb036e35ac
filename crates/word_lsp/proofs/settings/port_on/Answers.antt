use Rattle.std.proofs.Common.{arith}
use Rattle.word_lsp.proofs.settings.port_on.Goals as goal

pub returns-else-base-lt65536 : goal.returns-else-base-lt65536
returns-else-base-lt65536 c = omega (arith, c.none.ensures, c.if-base-lt65536.false, c.port-base.ensures.value, c.port-base.ensures.within.1)
