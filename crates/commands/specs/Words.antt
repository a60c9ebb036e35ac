-- Words as they are met from a line's front.
use Rattle.std.specs.Prelude.{◌≡◌, ℕ, Bool, true, false, List, [], ◌∷◌, ◌==◌, if◌then◌else◌}
use Rattle.model.specs.Commands.{words_of}

-- The first word of a line and the bytes after it; a line of only spaces has none.
abbrev pub IsNextWord : List ℕ → List ℕ → List ℕ → Type 0
IsNextWord line [] rest = (words_of line ≡ []) × (words_of rest ≡ [])
IsNextWord line (b ∷ w) rest = words_of line ≡ (b ∷ w) ∷ words_of rest

abbrev pub no_space : ℕ → Bool
no_space b = if b == 32 then false else true
