-- A memory whose bytes at some addresses alone are others, and the XOR of both memories there.
use Rattle.std.proofs.Common.{◌≡◌, ◌≢◌, ◌∙◌, ℕ, List, [], ◌∷◌, length, refl, sym, ap, subst, arith, inl, inr}
use Rattle.std.specs.Prelude.{bit_xor, slice_index, slice_set}
use Rattle.std.proofs.lemmas.Bool.{cases_eq, cases_lt}
use Rattle.std.proofs.lemmas.List.{ext_get_or, get_or-set_other, get_or-set_same, get_or_past, length-set}
use Rattle.std.proofs.lemmas.Nat.{xor_comm}
use Rattle.page_data.specs.Changes.{flipped_memory}
use Rattle.page_data.specs.Steps.{cells_after, cells_between, cells_of}
use Rattle.page_data.proofs.Xor.{xor_again}

-- an address is none of some
abbrev pub Outside : ℕ → List ℕ → Type 0
Outside k [] = Unit {0}
Outside k (a ∷ addresses) = (k ≢ a) × Outside k addresses

abbrev pub AreApart : List ℕ → Type 0
AreApart [] = Unit {0}
AreApart (a ∷ addresses) = Outside a addresses × AreApart addresses

cells_set : (s t : List ℕ) (a value : ℕ) (addresses : List ℕ) → Outside a addresses
    → cells_between s t addresses ≡ cells_between (slice_set s a value) t addresses
cells_set s t a value [] apart = refl
cells_set s t a value (b ∷ addresses) apart =
    let same : slice_index (slice_set s a value) b ≡ slice_index s b = get_or-set_other s a b value 0 (λ e. apart.0 (sym e)) in
    ap (λ x. (b, bit_xor x (slice_index t b)) ∷ cells_between s t addresses) (sym same)
    ∙ ap (λ cells. (b, bit_xor (slice_index (slice_set s a value) b) (slice_index t b)) ∷ cells) (cells_set s t a value addresses apart.1)

-- the byte at the address that was set is the other memory's
at_set : (s t : List ℕ) (a : ℕ) → length t ≡ length s → slice_index t a ≡ slice_index (slice_set s a (slice_index t a)) a
at_set s t a size = elim (cases_lt a (length s)) [
  | inl within ↦ sym (get_or-set_same s a (slice_index t a) 0 within)
  | inr past ↦
      get_or_past t a 0 (omega (arith, past, size))
      ∙ sym (get_or_past (slice_set s a (slice_index t a)) a 0 (omega (arith, past, length-set s a (slice_index t a))))
]

pub flipped_is : (s t : List ℕ) (addresses : List ℕ) → length t ≡ length s → ((k : ℕ) → Outside k addresses → slice_index t k ≡ slice_index s k)
    → AreApart addresses
    → flipped_memory s (cells_between s t addresses) ≡ t
unfolding flipped_memory
flipped_is s t [] size same apart = sym (ext_get_or 0 t s size (λ i within. same i tt))
flipped_is s t (a ∷ addresses) size same apart =
    let next : List ℕ = slice_set s a (slice_index t a) in
    let rest : (k : ℕ) → Outside k addresses → slice_index t k ≡ slice_index next k = λ k out. elim (cases_eq k a) [
      | inl is ↦ subst (λ (j : ℕ). slice_index t j ≡ slice_index next j) (sym is) (at_set s t a size)
      | inr differs ↦ same k (differs, out) ∙ sym (get_or-set_other s a k (slice_index t a) 0 differs)
    ] in
    ap (λ x. flipped_memory (slice_set s a x) (cells_between s t addresses)) (xor_again (slice_index s a) (slice_index t a))
    ∙ ap (flipped_memory next) (cells_set s t a (slice_index t a) addresses apart.0)
    ∙ flipped_is next t addresses (size ∙ sym (length-set s a (slice_index t a))) rest apart.1

cells_turned : (s t : List ℕ) (addresses : List ℕ) → cells_between s t addresses ≡ cells_between t s addresses
cells_turned s t [] = refl
cells_turned s t (a ∷ addresses) =
    ap (λ x. (a, x) ∷ cells_between s t addresses) (xor_comm (slice_index s a) (slice_index t a))
    ∙ ap (λ cells. (a, bit_xor (slice_index t a) (slice_index s a)) ∷ cells) (cells_turned s t addresses)

pub flipped_back : (s t : List ℕ) (addresses : List ℕ) → length t ≡ length s → ((k : ℕ) → Outside k addresses → slice_index t k ≡ slice_index s k)
    → AreApart addresses
    → flipped_memory t (cells_between s t addresses) ≡ s
flipped_back s t addresses size same apart =
    ap (flipped_memory t) (cells_turned s t addresses) ∙ flipped_is t s addresses (sym size) (λ k out. sym (same k out)) apart

-- the same cells, by their old bytes
pub cells_are : (s t : List ℕ) (addresses : List ℕ) → cells_after t (cells_of s addresses) ≡ cells_between s t addresses
cells_are s t [] = refl
cells_are s t (a ∷ addresses) = ap (λ cells. (a, bit_xor (slice_index s a) (slice_index t a)) ∷ cells) (cells_are s t addresses)
