use Rattle.std.proofs.Common.{◌∙◌, ◌+◌, ap, arith, drop, sym}
use Rattle.dap_views.specs.Watches.{all_unset}
use Rattle.dap_views.proofs.Watching.{unset_by, unset_more, unset_none}
use Rattle.dap_views.proofs.watches.unset_all.Goals as goal

pub loop-address-preserved : goal.loop-address-preserved
loop-address-preserved c =
    let i = c.loop-address.address-index in
    let addresses = c.args.addresses.now in
    c.loop-address.invariant ∙ unset_more addresses i (omega (arith, c.loop-address-test.true)) c.loop-address.session
    ∙ ap (all_unset (drop (i + 1) addresses)) (sym (unset_by _ _ _ _ c.clear_watch.ensures.ok c.clear_watch.ensures.err))

pub returns : goal.returns
returns c = sym (c.loop-address.invariant ∙ unset_none c.args.addresses.now c.loop-address.address-index (omega (arith, c.loop-address-test.false))
    c.loop-address.session)
