use Rattle.std.proofs.Common.{◌≡◌, ◌++◌, drop}
use Rattle.std.specs.Prelude.{string_bytes}
use Rattle.std.specs.List.{flat_map}
use Rattle.word_info.specs.Rows.{line_row}
use Rattle.word_info.proofs.fact_text.push_lines.Given as goal

abbrev pub invariant-loop-stuck : goal.invariant-loop-stuck
invariant-loop-stuck l = string_bytes l.words ++ flat_map line_row (drop l.stuck-index l.lines) ≡ string_bytes l.initial.words ++ flat_map line_row l.lines
