use Rattle.std.proofs.Common.{◌≡◌, ◌<◌, ◌/◌, arith, replicate, slice_index}
use Rattle.std.proofs.lemmas.List.{get_or-replicate}
use Rattle.bus.proofs.pages.stamp_all.Goals as goal

pub returns : goal.returns
returns c = λ since le xs ys k within below.
    let stamp : slice_index (replicate 256 c.args.now) (k / 256) ≡ c.args.now = get_or-replicate 256 (k / 256) c.args.now 0 (omega (arith, within)) in
    let lower : slice_index (replicate 256 c.args.now) (k / 256) < since = below in
    absurd (omega (arith, stamp, lower, le))
