-- What a call wrote, if a writer's bytes are known.
use Rattle.std.specs.Prelude.{◌≡◌, ℕ, List, ◌++◌, Option, Result, MatchResult}
use Rattle.std.specs.Io.KnownBytes.{Appends}

-- A beginning of a text was written.
abbrev pub AppendsFront : Option (List ℕ) → Option (List ℕ) → List ℕ → Type 0
AppendsFront old new text = (front : List ℕ) × (rest : List ℕ) × (text ≡ front ++ rest)
    × Appends old new front

-- At `Ok` the text was written, and at `Err` a beginning of it.
abbrev pub Writes : {X E : Type 0} → Option (List ℕ) → Option (List ℕ) → List ℕ → Result X E
    → Type 0
Writes old new text r = MatchResult r (λ _. Appends old new text) (λ _. AppendsFront old new text)
