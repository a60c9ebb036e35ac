use Rattle.std.proofs.Common.{◌∙◌, [], List, ap, arith, take}
use Rattle.std.proofs.lemmas.List.{take_all}
use Rattle.dap_messages.specs.declared.listed.Placed.{Placed}
use Rattle.dap_views.proofs.Kept.{kept_more}
use Rattle.dap_views.specs.Answered.{is_in, placed_in}
use Rattle.dap_views.proofs.listed.placed_in.Goals as goal

pub loop-one-init : goal.loop-one-init
loop-one-init c = c.new-list.ensures.items

pub loop-one-preserved : goal.loop-one-preserved
loop-one-preserved c = kept_more (is_in c.args.inside c.args.file) c.args.placed.now c.loop-one.one-index _ _ _ _
    (omega (arith, c.loop-one-test.true)) c.is_in.ensures c.in_ok-push_if.ensures c.loop-one.invariant

pub returns : goal.returns
returns c = c.loop-one.invariant
    ∙ ap (placed_in c.args.inside c.args.file) (take_all c.loop-one.one-index c.args.placed.now (omega (arith, c.loop-one-test.false)))
