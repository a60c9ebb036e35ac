use Rattle.std.proofs.Common.{◌-◌, arith, sym}
use Rattle.std.proofs.lemmas.List.{take_all}
use Rattle.dap_session.proofs.changing.fitting.Goals as goal

pub returns : goal.returns
returns c = sym (take_all (65536 - c.args.address) c.args.bytes.now (omega (arith, c.from-room.ensures, c.if-bytes-room.false)))
