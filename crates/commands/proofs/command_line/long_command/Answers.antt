use Rattle.std.proofs.Common.{sym}
use Rattle.std.proofs.lemmas.Bool.{eqb-false}
use Rattle.commands.proofs.Patches.{six}
use Rattle.commands.proofs.command_line.long_command.Goals as goal

pub returns-else-is_empty-2 : goal.returns-else-is_empty-2
returns-else-is_empty-2 c =
    sym (six c.args.word.now c.args.second.now c.args.third.now c.args.fourth.now c.args.rest.now _ _ _ _
    c.next_word.ensures.word (eqb-false _ _ (sym c.if-is_empty.ensures)) c.next_word-2.ensures.word (eqb-false _ _ (sym c.if-is_empty-2.ensures)) c.requires)
