use Rattle.std.proofs.Common.{◌≡◌, ◌++◌, drop}
use Rattle.std.specs.List.{flat_map}
use Rattle.trace_rows.specs.Records.{line_text}
use Rattle.trace_rows.proofs.lcov.push_lines.Given as goal

abbrev pub invariant-loop-row : goal.invariant-loop-row
invariant-loop-row l = l.text.items ++ flat_map (line_text l.tally) (drop l.row-index l.rows) ≡ l.initial.text.items ++ flat_map (line_text l.tally) l.rows
