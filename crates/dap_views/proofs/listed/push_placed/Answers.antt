use Rattle.std.proofs.Common.{◌∙◌, ◌++◌, ℕ, List, ap, append-nil, arith, sym}
use Rattle.std.proofs.lemmas.List.{take_all}
use Rattle.dap_views.proofs.Kept.{each_more}
use Rattle.dap_views.specs.Answered.{one_placed, placed_at}
use Rattle.dap_views.proofs.listed.push_placed.Goals as goal

pub loop-address-init : goal.loop-address-init
loop-address-init c = sym (append-nil c.args.placed.now.items)

pub loop-address-preserved : goal.loop-address-preserved
loop-address-preserved c = each_more (one_placed c.args.file c.args.id) c.args.addresses.now c.loop-address.address-index _ _ _ _
    (omega (arith, c.loop-address-test.true)) c.in_ok-push.ensures.items c.loop-address.invariant

pub returns : goal.returns
returns c = c.loop-address.invariant
    ∙ ap (λ (all : List ℕ). c.args.placed.now.items ++ placed_at c.args.file c.args.id all)
    (take_all c.loop-address.address-index c.args.addresses.now (omega (arith, c.loop-address-test.false)))
