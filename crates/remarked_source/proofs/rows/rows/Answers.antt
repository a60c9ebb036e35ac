use Rattle.std.proofs.Common.{◌≡◌, ◌∙◌, Some, None, Option, option_map, slice_get, sym, ap, arith, rules}
use Rattle.assembler.specs.Assembly.{source_lines}
use Rattle.assembler.specs.Lines.{line_view}
use Rattle.remarked_source.specs.Rows.{rows_from}
use Rattle.remarked_source.specs.Views.{beside_view}
use Rattle.remarked_source.proofs.Lines.{line_more, there}
use Rattle.remarked_source.proofs.rows.rows.Goals.{in-Some+in_ok-push_rows_of, in_default}
use Rattle.remarked_source.proofs.rows.rows.Goals as goal

pub loop-index-preserved : goal.loop-index-preserved
loop-index-preserved c =
    let b = beside_view c.args.beside in
    let cells = c.args.cells.now in
    let lines = source_lines c.args.assembly.now in
    let i = c.loop-index.index in
    elim c.match-line.branch [
      | in-Some+in_ok-push_rows_of w ↦
          rw (w.from-is, w.behind-from.ensures) (line_more b cells c.loop-index.from i lines (line_view w.in-Some.line) c.loop-index.out.items _
          (rows_from b cells 0 lines)
          (sym c.line.ensures ∙ ap (option_map line_view) w.in-Some.is) (search rules) c.loop-index.invariant)
      | in_default w ↦ absurd (there lines i (omega arith) (sym c.line.ensures ∙ ap (option_map line_view) w.in_default.is))
    ]
