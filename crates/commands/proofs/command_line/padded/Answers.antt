use Rattle.std.proofs.Common.{◌∙◌, arith}
use Rattle.commands.proofs.Texts.{front_of_zeros}
use Rattle.commands.proofs.command_line.padded.Goals as goal

pub returns : goal.returns
returns c = c.put_front.ensures ∙ front_of_zeros c.args.text.now 255 255 c.requires (omega arith)
