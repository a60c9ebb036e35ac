-- A text with zeros after it, and how long texts are.
use Rattle.std.proofs.Common.{◌≡◌, ℕ, zero, suc, ◌+◌, ◌-◌, ◌≤◌, List, [], ◌∷◌, ◌++◌, length, take, drop, replicate, refl, ap, ◌∙◌, sym, arith, inl, inr}
use Rattle.std.proofs.lemmas.Bool.Decides.{eqb_tells}
use Rattle.model.specs.Commands.{without_spaces, after_word, rest_of, text_of}

zeros_front : (n m : ℕ) → n ≤ m → replicate {A = ℕ} n 0 ≡ take n (replicate {A = ℕ} m 0)
zeros_front zero m h = refl
zeros_front (suc n) zero h = absurd (omega arith)
zeros_front (suc n) (suc m) h = ap (λ l. 0 ∷ l) (zeros_front n m (omega arith))

-- zeros in the place of whose first a text is put
pub front_of_zeros : (text : List ℕ) (n m : ℕ) → length text ≤ n → n ≤ m
    → text ++ drop (length text) (replicate {A = ℕ} n 0) ≡ take n (text ++ replicate {A = ℕ} m 0)
front_of_zeros [] n m h k = zeros_front n m k
front_of_zeros (b ∷ bs) zero m h k = absurd (omega arith)
front_of_zeros (b ∷ bs) (suc n) m h k = ap (λ l. b ∷ l) (front_of_zeros bs n m (omega arith) (omega arith))

-- ---- lengths

unspaced_short : (line : List ℕ) → length (without_spaces line) ≤ length line
unspaced_short [] = omega arith
unspaced_short (b ∷ bs) = elim (eqb_tells b 32) [
  | inl e ↦ rw e.0 (omega (arith, unspaced_short bs))
  | inr e ↦ rw e.0 (omega arith)
]

after_short : (line : List ℕ) → length (after_word line) ≤ length line
after_short [] = omega arith
after_short (b ∷ bs) = elim (eqb_tells b 32) [
  | inl e ↦ rw e.0 (omega arith)
  | inr e ↦ rw e.0 (omega (arith, after_short bs))
]

pub text_short : (line : List ℕ) → length (text_of line) ≤ length line
text_short line = omega (
  arith,
  unspaced_short (rest_of (rest_of line)),
  after_short (without_spaces (rest_of line)),
  unspaced_short (rest_of line),
  after_short (without_spaces line),
  unspaced_short line,
)
