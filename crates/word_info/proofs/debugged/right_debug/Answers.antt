use Rattle.std.proofs.Common.{inr}
use Rattle.debug_records.specs.Views.{info_view}
use Rattle.word_info.proofs.DebugRows.{rows_by}
use Rattle.word_info.proofs.debugged.right_debug.Goals as goal

pub returns : goal.returns
returns g c = inr (record {
  bytes = c.args.bytes.now;
  form = c.args.form;
  begun = c.requires.begun;
  info = info_view c.args.info.now;
  reads = c.requires.reads;
  states = c.in_ok-states.states.items;
  rows = rows_by _ _ _ _ _ c.in_ok-text.ensures c.as_slice.ensures.value;
})
