-- Which name an address belongs to: computed from the definitions.
use Rattle.std.proofs.Common.{◌≡◌, [], ◌∷◌, Some, None, refl, true, false}
use Rattle.std.specs.Prelude.{codes, pos, negsuc}
use Rattle.trace_rows.specs.Sites.{first_at, names_of, nowhere, or_below}

-- An image with bytes at 1, 2 and 4: a label names an address only there.
pub labels : names_of (None ∷ Some 9 ∷ Some 9 ∷ None ∷ Some 9 ∷ []) nowhere true
    (((codes "a", pos 1), true) ∷ ((codes "b", pos 0), true) ∷ ((codes "c", negsuc 0), true) ∷ ((codes "d", pos 65536), true)
    ∷ ((codes "e", pos 2), true) ∷ ((codes "f", pos 2), false) ∷ [])
    ≡ record { text = codes "a"; address = 1 } ∷ record { text = codes "e"; address = 2 } ∷ []
unfolding names_of
labels = refl

-- The bytes at 1 and 2 are those of a label at 1: a definition names 4, and not 2.
pub definitions : names_of (None ∷ Some 9 ∷ Some 9 ∷ None ∷ Some 9 ∷ []) (or_below (None ∷ Some 9 ∷ Some 9 ∷ None ∷ Some 9 ∷ []) (first_at (1 ∷ []))) false
    (((codes "a", pos 1), true) ∷ ((codes "limit", pos 2), false) ∷ ((codes "data", pos 4), false) ∷ [])
    ≡ record { text = codes "data"; address = 4 } ∷ []
unfolding names_of or_below first_at
definitions = refl

-- The first of two labels at 1 has 2 as well. 4 has none, since the image has no byte at 3.
pub first_of_two : or_below (None ∷ Some 9 ∷ Some 9 ∷ None ∷ Some 9 ∷ []) (first_at (1 ∷ 1 ∷ [])) 2 ≡ Some 0
unfolding or_below first_at
first_of_two = refl

pub behind_gap : or_below (None ∷ Some 9 ∷ Some 9 ∷ None ∷ Some 9 ∷ []) (first_at (1 ∷ 1 ∷ [])) 4 ≡ None
unfolding or_below first_at
behind_gap = refl
