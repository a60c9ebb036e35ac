-- The words that are left, while those before are read.
use Rattle.std.proofs.Common.{Bool, true, false, List, ℕ}
use Rattle.word_debug.specs.Strict.{without_strict}

abbrev pub left : Bool → List (List ℕ) → List (List ℕ)
left true words = without_strict words
left false words = words
