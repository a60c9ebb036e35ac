-- The words A, X and Y.
use Rattle.std.specs.Prelude.{ℕ, ◌==◌, ◌||◌, Bool, false, List, [], ◌∷◌}
use Rattle.std.specs.Char.{to_ascii_uppercase}

abbrev pub is_register_letter : ℕ → Bool
is_register_letter capital = (capital == 65) || (capital == 88) || (capital == 89)

-- A, X or Y, in either letter case.
abbrev pub is_register : List ℕ → Bool
is_register [] = false
is_register (b ∷ []) = is_register_letter (to_ascii_uppercase b)
is_register (b ∷ c ∷ text) = false
