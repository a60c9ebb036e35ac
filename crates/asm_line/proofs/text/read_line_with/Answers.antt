use Rattle.std.proofs.Common.{Ok}
use Rattle.asm_line.proofs.Tokens.{read_is}
use Rattle.asm_line.proofs.FewBytes.{small_read}
use Rattle.asm_line.proofs.text.read_line_with.Goals as goal

pub returns-in-Ok-clause-exact : goal.returns-in-Ok-clause-exact
returns-in-Ok-clause-exact c = rw (read_is c.args.profile c.args.line.now) c.in-Ok.ensures

pub returns-in-Ok-clause-small : goal.returns-in-Ok-clause-small
returns-in-Ok-clause-small c =
    small_read c.args.profile c.expressions_are_longest.ensures c.tokens_are_slices.ensures c.args.line.now (Ok c.in-Ok.found)
    (rw (read_is c.args.profile c.args.line.now) c.in-Ok.ensures)

pub returns-in-Err-clause-exact : goal.returns-in-Err-clause-exact
returns-in-Err-clause-exact c = rw (read_is c.args.profile c.args.line.now) c.in-Err.ensures
