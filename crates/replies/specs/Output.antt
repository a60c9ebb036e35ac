-- The bytes of the output in rows, without the line before them.
use Rattle.std.specs.Prelude.{ℕ, ◌+◌, ◌*◌, ◌/◌, List, length}
use Rattle.std.specs.List.{flat_map, range_with_len}
use Rattle.model.specs.Text.{output_row}

unfoldable pub output_rows : List ℕ → List ℕ
output_rows out
    = flat_map (λ k. output_row out (32 * k)) (range_with_len 0 ((length out + 31) / 32))
