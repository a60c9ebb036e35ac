use Rattle.std.proofs.Common.{◌∙◌, ap}
use Rattle.debug_records.specs.Rows.{clear_rows, rows_of}
use Rattle.debug_records.specs.Views.{info_view}
use Rattle.debug_facts.proofs.Cells.{same_rows}
use Rattle.debug_facts.proofs.hidden.hidden_cells.Goals as goal

pub returns-clause-size : goal.returns-clause-size
returns-clause-size c = c.in_ok-cells.ensures.size

pub returns-clause-hidden : goal.returns-clause-hidden
returns-clause-hidden c =
    let info = info_view c.args.info.now in
    same_rows (rows_of info) (clear_rows info (rows_of info)) _ _ _ c.in_ok-cells.ensures (c.as_slice-2.ensures.value ∙ c.in_ok-rows.ensures)
    (c.as_slice-3.ensures.value ∙ (c.in_ok-clear.ensures ∙ ap (clear_rows info) (c.as_slice.ensures.value ∙ c.in_ok-rows.ensures)))
