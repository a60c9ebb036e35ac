-- A break or a watch that is looked for, and its index.
use Rattle.std.proofs.Common.{◌≡◌, ℕ, ◌+◌, suc, Bool, true, false, cond, ◌||◌, List, [], ◌∷◌, ◌++◌, Some, None, get_or, refl, sym, ap, subst, ◌∙◌, arith}
use Rattle.std.proofs.Math.ListN.{set}
use Rattle.std.specs.Prelude.{find, remove, position}
use Rattle.std.specs.List.{list_any, position_from}
use Rattle.std.specs.Set.{remove_key}
use Rattle.std.proofs.lemmas.Iterator.Adapters.{position_from-zero}
use Rattle.model.specs.State.{State}
use Rattle.mon_runs.specs.Stops.{after_visit, is_at, is_stop, stops_at, visited, without}
use Rattle.mon_runs.specs.declared.breaks.Break.{Break}

by_case : (b : Bool) (P : Type 0) → (b ≡ true → P) → (b ≡ false → P) → P
by_case true P t f = t refl
by_case false P t f = f refl

-- ---- no break stands there

abbrev pub NoneAt : ℕ → List Break → Type 0
NoneAt a bs = (list_any (is_at a) bs ≡ false) × (without a bs ≡ bs)
    × ((s : State) → (stops_at a bs s ≡ true) × (after_visit a bs s ≡ bs))

none_from : (a : ℕ) (bs : List Break) (j : ℕ) → position_from (is_at a) j bs ≡ None → NoneAt a bs
unfolding stops_at after_visit
none_from a [] j h = (refl, refl, λ s. (refl, refl))
none_from a (b ∷ rest) j h = by_case (is_at a b) (NoneAt a (b ∷ rest))
    (λ (e : is_at a b ≡ true). let bad : Some j ≡ None = sym (ap (λ t. cond t (Some j) (position_from (is_at a) (j + 1) rest)) e) ∙ h in cc)
    (λ (e : is_at a b ≡ false).
    let on : position_from (is_at a) (j + 1) rest ≡ None = sym (ap (λ t. cond t (Some j) (position_from (is_at a) (j + 1) rest)) e) ∙ h in
    let r : NoneAt a rest = none_from a rest (j + 1) on in (
      ap (λ t. t || list_any (is_at a) rest) e ∙ r.0,
      ap (λ t. cond t rest (b ∷ without a rest)) e ∙ ap (λ l. b ∷ l) r.1,
      λ s. (
        ap (λ t. cond t (is_stop s b) (stops_at a rest s)) e ∙ (r.2 s).0,
        ap (λ t. cond t (visited s b ∷ rest) (b ∷ after_visit a rest s)) e ∙ ap (λ l. b ∷ l) (r.2 s).1,
      ),
    ))

pub none : (a : ℕ) (bs : List Break) → position (is_at a) bs ≡ None → NoneAt a bs
none a bs h = none_from a bs 0 (sym (position_from-zero (is_at a) bs) ∙ h)

-- ---- the first break there stands at an index

abbrev pub FirstAt : ℕ → List Break → ℕ → Type 0
FirstAt a bs k = (list_any (is_at a) bs ≡ true) × (remove bs k ≡ without a bs)
    × ((ys : List Break) → remove (bs ++ ys) k ≡ without a bs ++ ys)
    × ((d : Break) (s : State) → (stops_at a bs s ≡ is_stop s (get_or bs k d))
    × (after_visit a bs s ≡ set bs k (visited s (get_or bs k d))))

first_from : (a : ℕ) (bs : List Break) (j m : ℕ) → position_from (is_at a) j bs ≡ Some m
    → (k : ℕ) × (j + k ≡ m) × FirstAt a bs k
unfolding stops_at after_visit
first_from a [] j m h = let bad : None ≡ Some m = h in cc
first_from a (b ∷ rest) j m h = by_case (is_at a b) ((k : ℕ) × (j + k ≡ m) × FirstAt a (b ∷ rest) k)
    (λ (e : is_at a b ≡ true).
    let here : Some j ≡ Some m = sym (ap (λ t. cond t (Some j) (position_from (is_at a) (j + 1) rest)) e) ∙ h in
    let same : j ≡ m = cc in (
      0,
      omega arith,
      (
        ap (λ t. t || list_any (is_at a) rest) e,
        sym (ap (λ t. cond t rest (b ∷ without a rest)) e),
        (λ ys. sym (ap (λ t. cond t rest (b ∷ without a rest) ++ ys) e)),
        (λ d s. (
          ap (λ t. cond t (is_stop s b) (stops_at a rest s)) e,
          ap (λ t. cond t (visited s b ∷ rest) (b ∷ after_visit a rest s)) e,
        )),
      ),
    ))
    (λ (e : is_at a b ≡ false).
    let on : position_from (is_at a) (j + 1) rest ≡ Some m = sym (ap (λ t. cond t (Some j) (position_from (is_at a) (j + 1) rest)) e) ∙ h in
    let r : (k : ℕ) × ((j + 1) + k ≡ m) × FirstAt a rest k = first_from a rest (j + 1) m on in
    let sum : (j + 1) + r.0 ≡ m = r.1 in (
      suc r.0,
      omega (arith, sum),
      (
        ap (λ t. t || list_any (is_at a) rest) e ∙ r.2.0,
        ap (λ l. b ∷ l) r.2.1 ∙ sym (ap (λ t. cond t rest (b ∷ without a rest)) e),
        (λ ys. ap (λ l. b ∷ l) (r.2.2 ys) ∙ sym (ap (λ t. cond t rest (b ∷ without a rest) ++ ys) e)),
        (λ d s. (
          ap (λ t. cond t (is_stop s b) (stops_at a rest s)) e ∙ (r.2.3 d s).0,
          ap (λ t. cond t (visited s b ∷ rest) (b ∷ after_visit a rest s)) e ∙ ap (λ l. b ∷ l) (r.2.3 d s).1,
        )),
      ),
    ))

pub first : (a : ℕ) (bs : List Break) (i : ℕ) → position (is_at a) bs ≡ Some i → FirstAt a bs i
first a bs i h =
    let r = first_from a bs 0 i (sym (position_from-zero (is_at a) bs) ∙ h) in
    let sum : 0 + r.0 ≡ i = r.1 in
    let same : r.0 ≡ i = omega (arith, sum) in
    subst (λ k. FirstAt a bs k) same r.2

-- ---- an element that passes a test

pub none_passes : {X : Type 0} (p : X → Bool) (xs : List X) (j : ℕ) → position_from p j xs ≡ None
    → (find p xs ≡ None) × (remove_key p xs ≡ xs)
none_passes p [] j h = (refl, refl)
none_passes p (x ∷ rest) j h = by_case (p x) ((find p (x ∷ rest) ≡ None) × (remove_key p (x ∷ rest) ≡ x ∷ rest))
    (λ (e : p x ≡ true). let bad : Some j ≡ None = sym (ap (λ t. cond t (Some j) (position_from p (j + 1) rest)) e) ∙ h in cc)
    (λ (e : p x ≡ false).
    let on : position_from p (j + 1) rest ≡ None = sym (ap (λ t. cond t (Some j) (position_from p (j + 1) rest)) e) ∙ h in
    let r = none_passes p rest (j + 1) on in (
      ap (λ t. cond t (Some x) (find p rest)) e ∙ r.0,
      ap (λ t. cond t rest (x ∷ remove_key p rest)) e ∙ ap (λ l. x ∷ l) r.1,
    ))

abbrev pub PassesAt : {X : Type 0} → (X → Bool) → List X → ℕ → Type 0
PassesAt {X = X} p xs k = (remove xs k ≡ remove_key p xs) × ((d : X) → find p xs ≡ Some (get_or xs k d))

passes_from : {X : Type 0} (p : X → Bool) (xs : List X) (j m : ℕ) → position_from p j xs ≡ Some m
    → (k : ℕ) × (j + k ≡ m) × PassesAt p xs k
passes_from p [] j m h = let bad : None ≡ Some m = h in cc
passes_from p (x ∷ rest) j m h = by_case (p x) ((k : ℕ) × (j + k ≡ m) × PassesAt p (x ∷ rest) k)
    (λ (e : p x ≡ true).
    let here : Some j ≡ Some m = sym (ap (λ t. cond t (Some j) (position_from p (j + 1) rest)) e) ∙ h in
    let same : j ≡ m = cc in (
      0,
      omega arith,
      (
        sym (ap (λ t. cond t rest (x ∷ remove_key p rest)) e),
        (λ d. ap (λ t. cond t (Some x) (find p rest)) e),
      ),
    ))
    (λ (e : p x ≡ false).
    let on : position_from p (j + 1) rest ≡ Some m = sym (ap (λ t. cond t (Some j) (position_from p (j + 1) rest)) e) ∙ h in
    let r : (k : ℕ) × ((j + 1) + k ≡ m) × PassesAt p rest k = passes_from p rest (j + 1) m on in
    let sum : (j + 1) + r.0 ≡ m = r.1 in (
      suc r.0,
      omega (arith, sum),
      (
        ap (λ l. x ∷ l) r.2.0 ∙ sym (ap (λ t. cond t rest (x ∷ remove_key p rest)) e),
        (λ d. ap (λ t. cond t (Some x) (find p rest)) e ∙ r.2.1 d),
      ),
    ))

pub passes : {X : Type 0} (p : X → Bool) (xs : List X) (i : ℕ) → position p xs ≡ Some i → PassesAt p xs i
passes p xs i h =
    let r = passes_from p xs 0 i (sym (position_from-zero p xs) ∙ h) in
    let sum : 0 + r.0 ≡ i = r.1 in
    let same : r.0 ≡ i = omega (arith, sum) in
    subst (λ k. PassesAt p xs k) same r.2

pub nothing_passes : {X : Type 0} (p : X → Bool) (xs : List X) → position p xs ≡ None
    → (find p xs ≡ None) × (remove_key p xs ≡ xs)
nothing_passes p xs h = none_passes p xs 0 (sym (position_from-zero p xs) ∙ h)
