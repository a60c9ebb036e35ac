use Rattle.std.proofs.Common.{arith, sym}
use Rattle.std.proofs.lemmas.List.{take_all}
use Rattle.json_messages.proofs.front.front_part.Goals as goal

pub returns : goal.returns
returns c = sym (take_all 15 c.args.bytes.now (omega (arith, c.if-bytes-gt-NAME_LEN.false)))
