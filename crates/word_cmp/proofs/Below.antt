-- The addresses at which two images differ.
use Rattle.std.proofs.Common.{◌≡◌, ◌≢◌, ℕ, zero, suc, ◌+◌, ◌<◌, ◌≤◌, ◌↔◌, cond, true, false, not, List, [], ◌∷◌, ◌++◌, length, get_or, Option, Some, None, inl, inr, refl, sym, ap, subst, ◌∙◌, arith, add-one, eq-eqb}
use Rattle.std.specs.List.{Contains}
use Rattle.std.proofs.lemmas.Bool.{cases_Bool, eqb-true}
use Rattle.std.proofs.lemmas.Bool.Decides.{leb_tells}
use Rattle.std.proofs.lemmas.List.{append-nil, get_or_past}
use Rattle.std.proofs.lemmas.List.Elements.{Contains-append_left, Contains-push, Contains-push_cases}
use Rattle.dump_faults.specs.Faults.{same_cell}
use Rattle.model.specs.Image.{cell_at}
use Rattle.word_cmp.specs.Differences.{differs, differences_below, differences}

abbrev Cells : Type 0
Cells = List (Option ℕ)

-- ---- two cells

same_is : (a b : Option ℕ) → same_cell a b ≡ true → a ≡ b
same_is None None h = refl
same_is None (Some b) h = absurd cc
same_is (Some a) None h = absurd cc
same_is (Some a) (Some b) h = ap (λ (n : ℕ). Some n) (eqb-true a b h)

is_same : (a : Option ℕ) → same_cell a a ≡ true
is_same None = refl
is_same (Some a) = eq-eqb a a refl

-- ---- one address more

pub nothing_below : (one other : Cells) → differences_below one other 0 ≡ []
unfolding differences_below
nothing_below one other = refl

pub no_more : (one other : Cells) (n : ℕ) (found : List ℕ) → not (same_cell (cell_at one n) (cell_at other n)) ≡ false
    → found ≡ differences_below one other n → found ≡ differences_below one other (n + 1)
unfolding differences_below
no_more one other n found h e = rw (add-one, h) (e ∙ sym (append-nil (differences_below one other n)))

pub one_more : (one other : Cells) (n : ℕ) (found more : List ℕ) → not (same_cell (cell_at one n) (cell_at other n)) ≡ true
    → found ≡ differences_below one other n → more ≡ found ++ n ∷ [] → more ≡ differences_below one other (n + 1)
unfolding differences_below
one_more one other n found more h e pushed = rw (add-one, h) (pushed ∙ ap (λ (t : List ℕ). t ++ n ∷ []) e)

-- ---- which addresses there are

abbrev Differ : Cells → Cells → ℕ → Type 0
Differ one other a = cell_at one a ≢ cell_at other a

tells : (one other : Cells) (a : ℕ) → differs one other a ≡ true → Differ one other a
tells one other a h e =
    let same : same_cell (cell_at one a) (cell_at other a) ≡ true = rw e (is_same (cell_at other a)) in
    let other_way : not true ≡ true = rw same at h in
    absurd cc

told : (one other : Cells) (a : ℕ) → Differ one other a → differs one other a ≡ true
told one other a ne = elim (cases_Bool (same_cell (cell_at one a) (cell_at other a))) [
  | inl t ↦ absurd (ne (same_is (cell_at one a) (cell_at other a) t))
  | inr f ↦ rw f refl
]

contained : (one other : Cells) (n a : ℕ) → Contains (differences_below one other n) a → Differ one other a
unfolding differences_below
contained one other zero a h = absurd (omega (arith, h.1))
contained one other (suc n) a h = elim (cases_Bool (differs one other n)) [
  | inl t ↦ elim (Contains-push_cases (differences_below one other n) n a (rw t at h)) [
    | inl k ↦ contained one other n a k
    | inr e ↦ subst (λ (i : ℕ). Differ one other i) e (tells one other n t)
  ]
  | inr f ↦ contained one other n a (rw (f, append-nil (differences_below one other n)) at h)
]

containing : (one other : Cells) (n a : ℕ) → a < n → Differ one other a → Contains (differences_below one other n) a
unfolding differences_below
containing one other zero a below ne = absurd (omega (arith, below))
containing one other (suc n) a below ne = elim (leb_tells (suc a) n) [
  | inl inside ↦ Contains-append_left (differences_below one other n) (cond (differs one other n) (n ∷ []) []) a
      (containing one other n a (omega (arith, inside.1)) ne)
  | inr past ↦
      let last : n ≡ a = omega (arith, below, past.1) in
      let t : differs one other n ≡ true = told one other n (subst (λ (i : ℕ). Differ one other i) (sym last) ne) in
      rw t (subst (λ (i : ℕ). Contains (differences_below one other n ++ n ∷ []) i) last (Contains-push (differences_below one other n) n))
]

past_all : (one other : Cells) (a : ℕ) → length one ≡ length other → length one ≤ a → cell_at one a ≡ cell_at other a
past_all one other a size past = get_or_past one a None past ∙ sym (get_or_past other a None (omega (arith, size, past)))

pub each_address : (one other : Cells) (found : List ℕ) → length one ≡ length other → found ≡ differences one other → (a : ℕ)
    → Contains found a ↔ Differ one other a
each_address one other found size e a = (
  λ h. contained one other (length one) a (subst (λ (t : List ℕ). Contains t a) e h),
  λ ne. elim (leb_tells (suc a) (length one)) [
    | inl inside ↦ subst (λ (t : List ℕ). Contains t a) (sym e) (containing one other (length one) a (omega (arith, inside.1)) ne)
    | inr past ↦ absurd (ne (past_all one other a size (omega (arith, past.1))))
  ],
)

-- ---- none exactly if the images are equal

none_in_one : (cells : Cells) (n : ℕ) → differences_below cells cells n ≡ []
unfolding differences_below
none_in_one cells zero = refl
none_in_one cells (suc n) = rw (is_same (cell_at cells n), none_in_one cells n) refl

same_cells : (xs ys : Cells) → length xs ≡ length ys → ((a : ℕ) → a < length xs → get_or xs a None ≡ get_or ys a None) → xs ≡ ys
same_cells [] [] size h = refl
same_cells [] (y ∷ ys) size h = absurd (omega (arith, size))
same_cells (x ∷ xs) [] size h = absurd (omega (arith, size))
same_cells (x ∷ xs) (y ∷ ys) size h =
    let first : x ≡ y = h zero (omega arith) in
    rw first (ap (λ (t : Cells). y ∷ t) (same_cells xs ys (omega (arith, size)) (λ a k. h (suc a) (omega (arith, k)))))

nothing_in : (a : ℕ) → Contains [] a → ⊥
nothing_in a h = absurd (omega (arith, h.1))

pub equal_images : (one other : Cells) (found : List ℕ) → length one ≡ length other → found ≡ differences one other → (found ≡ []) ↔ (one ≡ other)
equal_images one other found size e = (
  λ none. same_cells one other size (λ a below.
      elim (cases_Bool (same_cell (cell_at one a) (cell_at other a))) [
        | inl t ↦ same_is (cell_at one a) (cell_at other a) t
        | inr f ↦
            let ne : Differ one other a = tells one other a (rw f refl) in
            absurd (nothing_in a (subst (λ (t : List ℕ). Contains t a) (sym e ∙ none) (containing one other (length one) a below ne)))
      ]),
  λ same. e ∙ ap (λ (t : Cells). differences one t) (sym same) ∙ none_in_one one (length one),
)
