use Rattle.std.proofs.Common.{◌≡◌, ◌++◌, drop, map}
use Rattle.t65_reader.specs.RowText.{line_view}
use Rattle.t65_runner.specs.Parts.{lines_seen, tests_of}
use Rattle.t65_runner.proofs.around.tests_of.Given as goal

abbrev pub invariant-loop-line : goal.invariant-loop-line
invariant-loop-line l = lines_seen l.found.items ++ tests_of (drop l.line-index (map line_view l.lines)) ≡ tests_of (map line_view l.lines)
