use Rattle.std.proofs.Common.{arith}
use Rattle.dap_messages.proofs.ReadLists.{all_read, none_read, one_read}
use Rattle.dap_messages.specs.Requests.{source_of}
use Rattle.dap_messages.specs.Seen.{source_view}
use Rattle.serde_json.specs.View.{view}
use Rattle.dap_messages.proofs.reading.sources_in.Goals as goal

pub loop-listed-init : goal.loop-listed-init
loop-listed-init c = none_read source_of source_view c.items_in-all.result.now _ c.new-list.ensures.items

pub loop-listed-preserved : goal.loop-listed-preserved
loop-listed-preserved c = one_read source_of source_view c.items_in-all.result.now c.loop-listed.listed-index c.listed-item.result
    c.in_ok-breakpoint.breakpoint _ _
    (omega (arith, c.loop-listed-test.true)) c.listed-item.is c.in_ok-breakpoint.ensures c.in_ok-push.ensures.items c.loop-listed.invariant

pub returns : goal.returns
returns c = all_read source_of source_view c.items_in-all.result.now c.loop-listed.listed-index c.loop-listed.list.items (view c.args.request.now)
    (omega (arith, c.loop-listed-test.false)) c.items_in-all.ensures c.loop-listed.invariant
