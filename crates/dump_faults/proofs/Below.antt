-- A test of each number below a bound.
use Rattle.std.proofs.Common.{◌≡◌, ◌∙◌, ℕ, zero, suc, ◌+◌, ◌<◌, ◌↔◌, Bool, true, false, List, Option, Some, None, inl, inr, refl, sym, ap, subst, arith, add-one, eq-eqb}
use Rattle.std.proofs.lemmas.Bool.{cases_Bool, eqb-true}
use Rattle.std.proofs.lemmas.Bool.Decides.{leb_tells}
use Rattle.model.specs.Image.{cell_at}
use Rattle.dump_faults.specs.Faults.{IsReadWith, holds_below, is_right_at, same_cell}
use Rattle.dump_faults.specs.declared.faults.Fault.{Fault}

pub none_below : (test : ℕ → Bool) → holds_below test 0 ≡ true
unfolding holds_below
none_below test = refl

pub one_more : (test : ℕ → Bool) (n : ℕ) → holds_below test n ≡ true → test n ≡ true → holds_below test (n + 1) ≡ true
unfolding holds_below
one_more test n so_far here = rw (add-one, so_far) here

-- one that does not pass is enough
pub fails_below : (test : ℕ → Bool) (n k : ℕ) → k < n → test k ≡ false → holds_below test n ≡ false
unfolding holds_below
fails_below test zero k below fails = absurd (omega (arith, below))
fails_below test (suc n) k below fails = elim (leb_tells (suc k) n) [
  | inl inside ↦ rw (fails_below test n k (omega (arith, inside.1)) fails) refl
  | inr past ↦
      let last : k ≡ n = omega (arith, below, past.1) in
      let here : test n ≡ false = ap test (sym last) ∙ fails in
      elim (cases_Bool (holds_below test n)) [
        | inl t ↦ rw (t, here) refl
        | inr f ↦ rw f refl
      ]
]

-- ---- in words of each address

same_is : (a b : Option ℕ) → same_cell a b ≡ true → a ≡ b
same_is None None h = refl
same_is None (Some b) h = absurd cc
same_is (Some a) None h = absurd cc
same_is (Some a) (Some b) h = ap (λ (n : ℕ). Some n) (eqb-true a b h)

is_same : (a : Option ℕ) → same_cell a a ≡ true
is_same None = refl
is_same (Some a) = eq-eqb a a refl

holds : (test : ℕ → Bool) (n : ℕ) → ((k : ℕ) → k < n → test k ≡ true) → holds_below test n ≡ true
unfolding holds_below
holds test zero each = refl
holds test (suc n) each = rw (holds test n (λ k below. each k (omega (arith, below))), each n (omega arith)) refl

pub means : (fault : Fault) (dump good : List (Option ℕ)) (n : ℕ) → n ≡ 65536
    → (holds_below (is_right_at fault dump good) n ≡ true) ↔ IsReadWith fault dump good
unfolding is_right_at
means fault dump good n size = (
  λ all address below. elim (cases_Bool (is_right_at fault dump good address)) [
    | inl t ↦ same_is _ _ t
    | inr f ↦
        let never : true ≡ false = sym all ∙ fails_below (is_right_at fault dump good) n address (omega (arith, below, size)) f in
        absurd cc
  ],
  λ each. holds (is_right_at fault dump good) n (λ address below.
      subst (λ (c : Option ℕ). same_cell (cell_at dump address) c ≡ true) (each address (omega (arith, below, size))) (is_same (cell_at dump address))),
)

-- the same of the result of a test
pub told : (fault : Fault) (dump good : List (Option ℕ)) (result : Bool) → result ≡ holds_below (is_right_at fault dump good) 65536
    → (result ≡ true) ↔ IsReadWith fault dump good
told fault dump good result e =
    subst (λ (b : Bool). (b ≡ true) ↔ IsReadWith fault dump good) (sym e) (means fault dump good 65536 refl)
