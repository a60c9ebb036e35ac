use Rattle.std.proofs.Common.{arith}
use Rattle.dap_views.specs.Answered.{answer_elsewhere}
use Rattle.dap_messages.proofs.Lists.{all_items}
use Rattle.dap_views.proofs.listed.none_set.Goals as goal

pub returns : goal.returns
returns c =
    c.breakpoints_body.ensures _ (all_items answer_elsewhere c.args.listed.now c.loop.index c.loop.list (omega (arith, c.loop-test.false)) c.loop.invariant)
