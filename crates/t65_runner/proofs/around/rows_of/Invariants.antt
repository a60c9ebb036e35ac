use Rattle.std.proofs.Common.{◌≡◌, ◌++◌, drop, map}
use Rattle.t65_reader.specs.RowText.{line_view}
use Rattle.t65_runner.specs.Parts.{rows_of}
use Rattle.t65_runner.proofs.around.rows_of.Given as goal
use Rattle.t65_runner.specs.Passes.{rows_seen}

abbrev pub invariant-loop-line : goal.invariant-loop-line
invariant-loop-line l = rows_seen l.found.items ++ rows_of l.part (drop l.line-index (map line_view l.lines)) ≡ rows_of l.part (map line_view l.lines)
