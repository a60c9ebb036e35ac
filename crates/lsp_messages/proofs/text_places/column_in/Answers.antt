use Rattle.std.proofs.Common.{arith, length-take}
use Rattle.lsp_messages.proofs.text_places.column_in.Goals as goal

pub returns-clause-within : goal.returns-clause-within
returns-clause-within c = omega (arith, c.column_of.ensures.within, length-take c.line_size.result c.args.text.now)
