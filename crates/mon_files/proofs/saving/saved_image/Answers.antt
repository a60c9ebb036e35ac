use Rattle.std.proofs.Common.{◌+◌, arith, subst, sym}
use Rattle.mon_files.proofs.Cells.{IsSavedBelow, none_saved, one_saved}
use Rattle.mon_files.proofs.saving.saved_image.Goals as goal

pub loop-address-init : goal.loop-address-init
loop-address-init c =
    let bus = c.args.session.now.current.bus in
    subst (IsSavedBelow 0 bus c.args.loaded.now c.args.stretch) (sym c.in_ok-image.ensures) (none_saved bus c.args.loaded.now c.args.stretch)

pub loop-address-preserved : goal.loop-address-preserved
loop-address-preserved c =
    let bus = c.args.session.now.current.bus in
    let i = c.loop-address.address in
    subst (IsSavedBelow (i + 1) bus c.args.loaded.now c.args.stretch) (sym c.put_saved.ensures)
    (one_saved i bus c.args.loaded.now c.args.stretch c.loop-address.image c.loop-address-test.true c.loop-address.invariant)

pub returns : goal.returns
returns c =
    let inv = c.loop-address.invariant in
    record { saved = (inv.size, λ a h. inv.below a (omega (arith, h, c.loop-address-test.false))) }
