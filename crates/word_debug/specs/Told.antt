-- What a watched writer was told. Source: mos65.
use Rattle.std.specs.Prelude.{ℕ, Bool, true, false, List, [], ◌∷◌, ◌++◌, Option, Some, None, bytes_eq}

-- What a writer is known to hold that comes first in a list, if there is one.
abbrev pub held_first : {X : Type 0} → (X → Option (List ℕ)) → List X → Option (List ℕ)
held_first contents [] = None
held_first contents (x ∷ xs) = contents x

-- Each byte after a 1, and a 0 at the end: no such list begins another.
unfoldable pub framed : List ℕ → List ℕ
framed [] = 0 ∷ []
framed (byte ∷ bytes) = 1 ∷ byte ∷ framed bytes

-- The same of what a writer is known to hold, if it is known.
abbrev pub known_framed : Option (List ℕ) → List ℕ
known_framed None = 0 ∷ []
known_framed (Some bytes) = 1 ∷ framed bytes

-- A writer holds what it held and then some bytes, as far as is known.
abbrev pub has_grown : Option (List ℕ) → Option (List ℕ) → List ℕ → Bool
has_grown None now told = true
has_grown (Some held) None told = false
has_grown (Some held) (Some now) told = bytes_eq now (held ++ told)

-- A text if a test says so.
abbrev pub text_if : Bool → List ℕ → Option (List ℕ)
text_if true text = Some text
text_if false text = None

-- What a watch holds: what its writer held at first, framed, and then the bytes that it was told; as
-- long as the writer holds what it held and then these bytes. So whatever is written to a watch, its
-- writer got the same bytes, and they are those that were told.
abbrev pub told_to : Option (List ℕ) → Option (List ℕ) → List ℕ → Option (List ℕ)
told_to held now told = text_if (has_grown held now told) (known_framed held ++ told)
