use Rattle.std.proofs.Common.{◌∙◌, arith, sym}
use Rattle.dap_messages.proofs.ReadLists.{all_read, none_read, one_read, same_list}
use Rattle.dap_messages.specs.Requests.{data_of}
use Rattle.dap_messages.specs.declared.request.DataBreakpoint.{DataBreakpoint}
use Rattle.serde_json.specs.View.{view}
use Rattle.dap_messages.proofs.reading.bytes_in.Goals as goal

abbrev same : DataBreakpoint → DataBreakpoint
same b = b

pub loop-listed-init : goal.loop-listed-init
loop-listed-init c = none_read data_of same c.items_in-all.result.now _ c.new-list.ensures.items

pub loop-listed-preserved : goal.loop-listed-preserved
loop-listed-preserved c = one_read data_of same c.items_in-all.result.now c.loop-listed.listed-index c.listed-item.result c.data_of.result _ _
    (omega (arith, c.loop-listed-test.true)) c.listed-item.is c.data_of.ensures c.in_ok-push.ensures.items c.loop-listed.invariant

pub returns : goal.returns
returns c = sym (same_list c.loop-listed.list.items) ∙ all_read data_of same c.items_in-all.result.now c.loop-listed.listed-index
    c.loop-listed.list.items (view c.args.request.now)
    (omega (arith, c.loop-listed-test.false)) c.items_in-all.ensures c.loop-listed.invariant
