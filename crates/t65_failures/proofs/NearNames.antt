-- The first name that is near a word, looked for from the first one on.
use Rattle.std.proofs.Common.{◌≡◌, ◌∙◌, ℕ, ℤ, zero, suc, ◌+◌, ◌<◌, ◌≤◌, Bool, true, false, cond, List, [], ◌∷◌, length, drop, Option, Some, None, option_map, refl, ap, sym, add-one, arith, drop_of_length-le}
use Rattle.std.specs.Prelude.{find, slice_get}
use Rattle.model.specs.Names.{Definitions}

abbrev Definition : Type 0
Definition = List ℕ × ℤ

abbrev pub name_of : Option Definition → Option (List ℕ)
name_of definition = option_map (λ (d : Definition). d.0) definition

abbrev pub first : (List ℕ → Bool) → Definitions → Option (List ℕ)
first is_wanted names = name_of (find (λ (d : Definition). is_wanted d.0) names)

-- Each name below the count is there.
pub there : (names : Definitions) (i : ℕ) → i < length names → slice_get names i ≡ None → ⊥
there [] i h e = absurd (omega (arith, h))
there (d ∷ names) zero h e = absurd cc
there (d ∷ names) (suc i) h e = there names i (omega (arith, h)) e

inside : (holds : Bool) (d : Definition) (rest : Option Definition) → name_of (cond holds (Some d) rest) ≡ cond holds (Some d.0) (name_of rest)
inside true d rest = refl
inside false d rest = refl

choice : (is_wanted : List ℕ → Bool) (names : Definitions) (i : ℕ) (name : List ℕ) (holds : Bool) → name_of (slice_get names i) ≡ Some name
    → is_wanted name ≡ holds → first is_wanted (drop i names) ≡ cond holds (Some name) (first is_wanted (drop (suc i) names))
choice is_wanted [] i name holds is e = absurd cc
choice is_wanted (d ∷ names) zero name holds is e =
    let both : Some d.0 ≡ Some name = is in
    let same : d.0 ≡ name = cc in
    inside (is_wanted d.0) d (find (λ (d : Definition). is_wanted d.0) names)
    ∙ ap (λ (b : Bool). cond b (Some d.0) (first is_wanted names)) (ap is_wanted same ∙ e)
    ∙ ap (λ (n : List ℕ). cond holds (Some n) (first is_wanted names)) same
choice is_wanted (d ∷ names) (suc i) name holds is e = choice is_wanted names i name holds is e

pub near_here : (is_wanted : List ℕ → Bool) (names : Definitions) (i : ℕ) (name : List ℕ) (whole : Option (List ℕ))
    → name_of (slice_get names i) ≡ Some name → is_wanted name ≡ true → first is_wanted (drop i names) ≡ whole → Some name ≡ whole
near_here is_wanted names i name whole is near so_far = sym (choice is_wanted names i name true is near) ∙ so_far

pub near_later : (is_wanted : List ℕ → Bool) (names : Definitions) (i : ℕ) (name : List ℕ) (whole : Option (List ℕ))
    → name_of (slice_get names i) ≡ Some name → is_wanted name ≡ false → first is_wanted (drop i names) ≡ whole
    → first is_wanted (drop (i + 1) names) ≡ whole
near_later is_wanted names i name whole is far so_far = rw add-one (sym (choice is_wanted names i name false is far) ∙ so_far)

pub none_near : (is_wanted : List ℕ → Bool) (names : Definitions) (i : ℕ) (whole : Option (List ℕ)) → length names ≤ i
    → first is_wanted (drop i names) ≡ whole → None ≡ whole
none_near is_wanted names i whole past so_far = sym (ap (first is_wanted) (drop_of_length-le names past)) ∙ so_far
