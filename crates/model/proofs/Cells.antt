-- The cells of a record by their index.
use Rattle.std.proofs.Common.{◌≡◌, ℕ, ◌<◌, ◌≤◌, zero, suc, List, [], ◌∷◌, take, None, refl, arith, length-take}
use Rattle.std.specs.Prelude.{slice_get}
use Rattle.std.proofs.lemmas.Option.{slice_get_past}

pub cell_within : {X : Type 0} (n : ℕ) (xs : List X) (i : ℕ) → i < n → slice_get (take n xs) i ≡ slice_get xs i
cell_within zero xs i h = absurd (omega arith)
cell_within (suc n) [] i h = refl
cell_within (suc n) (x ∷ xs) zero h = refl
cell_within (suc n) (x ∷ xs) (suc i) h = cell_within n xs i (omega arith)

pub cell_past : {X : Type 0} (n : ℕ) (xs : List X) (i : ℕ) → n ≤ i → slice_get (take n xs) i ≡ None
cell_past n xs i h = slice_get_past (take n xs) i (omega (arith, length-take n xs))
