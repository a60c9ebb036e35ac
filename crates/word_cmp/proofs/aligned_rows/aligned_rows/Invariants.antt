use Rattle.std.proofs.Common.{◌≡◌, take}
use Rattle.std.specs.Prelude.{string_bytes}
use Rattle.word_cmp.specs.AlignedRows.{rows_text}
use Rattle.word_cmp.specs.Sides.{side_view}
use Rattle.word_cmp.proofs.aligned_rows.aligned_rows.Given as goal

abbrev pub invariant-loop-row : goal.invariant-loop-row
invariant-loop-row l = string_bytes l.words ≡ rows_text (side_view l.one) (side_view l.other) (take l.row-index l.rows)
