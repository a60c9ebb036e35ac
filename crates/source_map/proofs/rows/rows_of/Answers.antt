use Rattle.std.proofs.Common.{◌∙◌, ◌++◌, [], ap, List}
use Rattle.std.specs.Prelude.{slice_get}
use Rattle.std.specs.Option.{option_to_list}
use Rattle.assembler.specs.Assembly.{source_lines}
use Rattle.source_map.specs.Lines.{row_of, rows_of}
use Rattle.source_map.specs.declared.rows.Row.{Row}
use Rattle.source_map.proofs.Steps.{one_more}
use Rattle.source_map.proofs.rows.rows_of.Goals as goal

pub loop-index-preserved : goal.loop-index-preserved
loop-index-preserved c =
    let lines = source_lines c.args.assembly.now in
    let i = c.loop-index.index in
    let image = c.args.assembly.now.image in
    record {
      rows = c.in_ok-push_row_at.ensures
          ∙ (ap (λ (rows : List Row). rows ++ rows_of image (option_to_list (slice_get lines i))) c.loop-index.invariant.rows
          ∙ one_more (row_of image) lines i []);
    }
