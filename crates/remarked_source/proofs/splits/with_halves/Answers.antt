use Rattle.std.proofs.Common.{◌≡◌, ◌∙◌, Some, None, Option, option_map, slice_get, sym, ap, arith, rules}
use Rattle.assembler.specs.Assembly.{source_lines}
use Rattle.assembler.specs.Lines.{line_view}
use Rattle.remarked_source.specs.Splits.{split_from}
use Rattle.remarked_source.proofs.Lines.{there}
use Rattle.remarked_source.proofs.SplitTables.{line_more}
use Rattle.remarked_source.proofs.splits.with_halves.Goals.{in-Some+in_ok-push_split_row, in_default}
use Rattle.remarked_source.proofs.splits.with_halves.Goals as goal

pub loop-index-preserved : goal.loop-index-preserved
loop-index-preserved c =
    let t = c.args.tables in
    let lines = source_lines t.assembly.now in
    let i = c.loop-index.index in
    elim c.match-line.branch [
      | in-Some+in_ok-push_split_row w ↦
          rw w.before-is (line_more t.cells.now t.splits.now lines (option_map line_view c.loop-index.before) i lines (line_view w.in-Some.line)
          c.loop-index.out.items _ (split_from t.cells.now t.splits.now lines None lines)
          (sym c.line.ensures ∙ ap (option_map line_view) w.in-Some.is) (search rules) c.loop-index.invariant)
      | in_default w ↦ absurd (there lines i (omega arith) (sym c.line.ensures ∙ ap (option_map line_view) w.in_default.is))
    ]
