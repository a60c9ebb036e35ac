-- A row put together from its parts.
use Rattle.std.proofs.Common.{◌≡◌, ℕ, ◌≤◌, List, [], ◌∷◌, ◌++◌, length, take, refl, arith, append_assoc}

-- three of at most three bytes are all of them
pub all_of : (xs : List ℕ) → length xs ≤ 3 → take 3 xs ≡ xs
all_of [] few = refl
all_of (a ∷ []) few = refl
all_of (a ∷ b ∷ []) few = refl
all_of (a ∷ b ∷ c ∷ []) few = refl
all_of (a ∷ b ∷ c ∷ d ∷ xs) few = absurd (omega (arith, few))

-- an address, the columns and a text, one after the other
pub joined : (w x y z : ℕ) (columns text : List ℕ)
    → (((((w ∷ x ∷ y ∷ z ∷ 32 ∷ 32 ∷ []) ++ columns) ++ (32 ∷ 32 ∷ [])) ++ text) ++ (10 ∷ []))
    ≡ w ∷ x ∷ y ∷ z ∷ 32 ∷ 32 ∷ (columns ++ (32 ∷ 32 ∷ (text ++ (10 ∷ []))))
joined w x y z columns text = simp append_assoc
