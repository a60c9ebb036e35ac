-- An expression whose names are all known keeps its value when more names have numbers.
use Rattle.std.proofs.Common.{◌≡◌, ℕ, ℤ, true, List, Option, Some, None, is_some, Result, Ok, Err, refl, sym, ap, ◌∙◌, inl, inr}
use Rattle.std.proofs.lemmas.Bool.{cases_Bool, and_parts}
use Rattle.model.specs.Expression.{Term, literal, name, here, negated, binary, low, high}
use Rattle.model.specs.Value.{Numbers, eval_of, value_of, knows, name_value}
use Rattle.model.specs.declared.expression.ExprFault.{ExprFault}
use Rattle.model.specs.declared.expression.ExprFault.TheVariants.{UnknownName}

-- each number that a name has, it has still
pub record Keeps (few more : Numbers) : Type 0 where
  pub each : (n : List ℕ) (v : ℤ) → few n ≡ Some v → more n ≡ Some v

some_value : (o : Option ℤ) → is_some o ≡ true → (v : ℤ) × (o ≡ Some v)
some_value None h = absurd cc
some_value (Some v) h = (v, refl)

abbrev unknown : Result ℤ ExprFault
unknown = Err UnknownName

no_value : (v : ℤ) → unknown ≡ Ok v → ⊥
no_value v e = cc

module _ (few more : Numbers) (keeps : Keeps few more) where
  pub known_still : (e : Term) → knows few e ≡ true → knows more e ≡ true
  known_still (literal v) h = refl
  known_still (name n) h = let s = some_value (few n) h in ap is_some (keeps.each n s.0 s.1)
  known_still here h = refl
  known_still (negated e) h = known_still e h
  known_still (binary op a b) h =
      let p = and_parts (knows few a) (knows few b) h in
      rw (known_still a p.0, known_still b p.1) refl
  known_still (low e) h = known_still e h
  known_still (high e) h = known_still e h

  pub same_value : (at : ℤ) (e : Term) → knows few e ≡ true → value_of few at e ≡ value_of more at e
  same_value at (literal v) h = refl
  same_value at (name n) h = let s = some_value (few n) h in ap name_value (s.1 ∙ sym (keeps.each n s.0 s.1))
  same_value at here h = refl
  same_value at (negated e) h = rw (same_value at e h) refl
  same_value at (binary op a b) h =
      let p = and_parts (knows few a) (knows few b) h in
      rw (same_value at a p.0, same_value at b p.1) refl
  same_value at (low e) h = rw (same_value at e h) refl
  same_value at (high e) h = rw (same_value at e h) refl

  -- so each number and each address that the names known at a line fix is the same under the
  -- numbers of all names
  pub still : (at : ℤ) (e : Term) (v : ℤ) → eval_of few at e ≡ Ok v → eval_of more at e ≡ Ok v
  unfolding eval_of
  still at e v h = elim (cases_Bool (knows few e)) [
    | inl t ↦ let there : value_of few at e ≡ Ok v = rw t at h in rw (known_still e t) (sym (same_value at e t) ∙ there)
    | inr f ↦ let there : unknown ≡ Ok v = rw f at h in absurd (no_value v there)
  ]
