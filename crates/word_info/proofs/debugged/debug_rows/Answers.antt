use Rattle.std.proofs.Common.{◌∙◌, ap, map}
use Rattle.std.specs.Option.{option_map}
use Rattle.debug_records.specs.Views.{info_view, segment_view}
use Rattle.word_info.specs.Facts.{ranges_of}
use Rattle.word_info.proofs.DebugRows.{rows_told}
use Rattle.word_info.proofs.debugged.debug_rows.Goals as goal

pub returns : goal.returns
returns c = rows_told c.args.form (info_view c.args.info.now) c.args.states.now c.in_ok-cells.cells.items _ _ _ _
    c.in_ok-cells.ensures.hidden c.in_ok-push_hidden_rows.ensures c.in_ok-words.ensures
    (ap (map (option_map segment_view)) c.as_slice-2.ensures.value)
    (c.as_slice-3.ensures.value ∙ (c.in_ok-ranges.ensures ∙ ap ranges_of c.as_slice.ensures.value))
