-- Runs of bytes behind a place of a line.
use Rattle.std.proofs.Common.{ℕ, ◌+◌, ◌≤◌, Bool, List, length, drop, arith}
use Rattle.std.specs.List.{prefix_len}
use Rattle.std.proofs.lemmas.List.{length-drop}
use Rattle.std.proofs.lemmas.List.Sums.{prefix_len-le-length}

-- they end within the line
pub run_within : (p : ℕ → Bool) (line : List ℕ) (place : ℕ) → place ≤ length line → place + prefix_len p (drop place line) ≤ length line
run_within p line place h = omega (arith, h, prefix_len-le-length p (drop place line), length-drop place line)
