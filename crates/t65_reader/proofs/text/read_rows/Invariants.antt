use Rattle.std.proofs.Common.{◌≡◌, ◌+◌, ◌≤◌, length, map}
use Rattle.model.specs.TextLines.{lines_of}
use Rattle.t65_reader.specs.CPrograms.{program_view}
use Rattle.t65_reader.specs.RowText.{asking_view, line_view, rows_after, rows_from}
use Rattle.t65_reader.proofs.text.read_rows.Given as goal

abbrev pub invariant-loop-rest : goal.invariant-loop-rest
invariant-loop-rest l = record {
  room : l.number + length l.rest ≤ l.first + length l.text;
  rows : rows_after (map line_view l.lines.items) (rows_from (asking_view l.asking) l.names.names (program_view l.program) l.number (lines_of l.rest))
      ≡ rows_from (asking_view l.asking) l.names.names (program_view l.program) l.first (lines_of l.text);
}

abbrev pub decreases-loop-rest : goal.decreases-loop-rest
decreases-loop-rest l = length l.rest
