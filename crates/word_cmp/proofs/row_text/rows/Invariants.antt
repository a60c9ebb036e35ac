use Rattle.std.proofs.Common.{◌≡◌, ◌++◌, drop}
use Rattle.std.specs.Prelude.{string_bytes}
use Rattle.word_cmp.specs.DifferenceRows.{rows_after, rows_of}
use Rattle.word_cmp.specs.Sides.{side_view}
use Rattle.word_cmp.proofs.row_text.rows.Given as goal

abbrev pub invariant-loop-place : goal.invariant-loop-place
invariant-loop-place l = string_bytes l.words ++ rows_after (side_view l.one) (side_view l.other) l.before (drop l.place l.differences)
    ≡ rows_of (side_view l.one) (side_view l.other) l.differences
