use Rattle.std.proofs.Common.{refl}
use Rattle.loading.proofs.machine.clash.Goals as goal

pub returns : goal.returns
returns c = (c.args.address, c.args.one.now, c.args.other.now, c.requires, c.clash_place.ensures, refl, refl, refl)
