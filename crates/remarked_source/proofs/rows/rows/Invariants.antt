use Rattle.std.proofs.Common.{◌≡◌, ◌++◌, drop}
use Rattle.assembler.specs.Assembly.{source_lines}
use Rattle.remarked_source.specs.Rows.{rows_from}
use Rattle.remarked_source.specs.Views.{beside_view}
use Rattle.remarked_source.proofs.rows.rows.Given as goal

abbrev pub invariant-loop-index : goal.invariant-loop-index
invariant-loop-index l = l.out.items ++ rows_from (beside_view l.beside) l.cells l.from (drop l.index (source_lines l.assembly))
    ≡ rows_from (beside_view l.beside) l.cells 0 (source_lines l.assembly)
