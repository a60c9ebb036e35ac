-- The names of a source with labels, and their numbers.
use Rattle.std.proofs.Common.{◌≡◌, ◌≢◌, ℕ, zero, suc, ◌+◌, ◌<◌, ◌≤◌, ℤ, pos, negsuc, List, [], ◌∷◌, ◌++◌, length, drop, Bool, true, false, Option, Some, None, refl, sym, ap, ◌∙◌, arith, inl, inr, replicate, get_or, get_or-set_other}
use Rattle.std.specs.Prelude.{◌⊎◌, ⊤, slice_set}
use Rattle.std.specs.Str.{bytes_eq}
use Rattle.std.proofs.lemmas.Slice.Eq.{bytes_eq-Decides}
use Rattle.std.proofs.lemmas.Bool.Decides.{eqb_tells, leb_tells, not_from_Decides}
use Rattle.std.proofs.lemmas.List.{get_or-replicate, get_or_past, length-replicate}
use Rattle.model.specs.declared.instruction.Profile.{Profile}
use Rattle.model.specs.Image.{cell_at}
use Rattle.model.specs.Expression.{number_of_text, in_range}
use Rattle.model.specs.Text.{hex_address}
use Rattle.model.specs.Names.{Definitions, number_in}
use Rattle.law_texts.proofs.Digits.{four_digits}
use Rattle.source_forms.specs.declared.mark.Mark.{Mark}
use Rattle.source_forms.specs.Rows.{by_cell}
use Rattle.source_forms.specs.Pieces.{Piece, piece_at, len_of, reach_of, reach_at, label_text}
use Rattle.source_forms.specs.Labels.{is_named, left_after, with_reach, table_from, no_labels}
use Rattle.law_source_forms.proofs.Places.{Near}

-- the definitions of some addresses' labels
abbrev pub defs : List ℕ → Definitions
defs [] = []
defs (s ∷ ss) = (label_text s, pos s) ∷ defs ss

pub defs_more : (ss : List ℕ) (a : ℕ) → defs (ss ++ a ∷ []) ≡ defs ss ++ (label_text a, pos a) ∷ []
defs_more [] a = refl
defs_more (s ∷ ss) a = ap (λ (ds : Definitions). (label_text s, pos s) ∷ ds) (defs_more ss a)

pub defs_joined : (ss ts : List ℕ) → defs (ss ++ ts) ≡ defs ss ++ defs ts
defs_joined [] ts = refl
defs_joined (s ∷ ss) ts = ap (λ (ds : Definitions). (label_text s, pos s) ∷ ds) (defs_joined ss ts)

pub defs_length : (ss : List ℕ) → length (defs ss) ≡ length ss
defs_length [] = refl
defs_length (s ∷ ss) = ap suc (defs_length ss)

abbrev pub Below : ℕ → List ℕ → Type 0
Below a [] = ⊤
Below a (s ∷ ss) = (s < a) × Below a ss

pub below_later : (a k : ℕ) (ss : List ℕ) → a ≤ k → Below a ss → Below k ss
below_later a k [] later h = tt
below_later a k (s ∷ ss) later h = (omega (arith, h.0, later), below_later a k ss later h.1)

pub below_more : (a k : ℕ) (ss : List ℕ) → a < k → Below a ss → Below k (ss ++ a ∷ [])
below_more a k [] later h = (later, tt)
below_more a k (s ∷ ss) later h = (omega (arith, h.0, later), below_more a k ss later h.1)

-- ---- a label's address

natural : Option ℤ → ℕ
natural None = 0
natural (Some (pos n)) = n
natural (Some (negsuc n)) = 0

bytes_tell : (xs ys : List ℕ) → ((bytes_eq xs ys ≡ true) × (xs ≡ ys)) ⊎ ((bytes_eq xs ys ≡ false) × (xs ≢ ys))
bytes_tell xs ys = by (bytes_eq xs ys) refl
  where
    by : (t : Bool) → bytes_eq xs ys ≡ t → ((bytes_eq xs ys ≡ true) × (xs ≡ ys)) ⊎ ((bytes_eq xs ys ≡ false) × (xs ≢ ys))
    by true e = inl (e, (bytes_eq-Decides xs ys).0 e)
    by false e = inr (e, not_from_Decides (bytes_eq xs ys) (bytes_eq-Decides xs ys) e)

label_same : (s t : ℕ) → s < 65536 → t < 65536 → label_text s ≡ label_text t → s ≡ t
unfolding natural
label_same s t below small same =
    let digits : hex_address s ≡ hex_address t = ap (drop 2) same in
    ap natural (sym (four_digits s below) ∙ ap (λ (x : List ℕ). in_range (number_of_text (36 ∷ x))) digits ∙ four_digits t small)

pub near : (ss : List ℕ) (a : ℕ) → Below a ss → a ≤ 65536 → Near (defs ss)
near [] a h small t below = inl refl
near (s ∷ ss) a h small t below = elim (bytes_tell (label_text t) (label_text s)) [
  | inl same ↦
      let e : t ≡ s = label_same t s below (omega (arith, h.0, small)) same.1 in
      inr (rw (same.0, e) refl)
  | inr other ↦ rw other.0 (near ss a h.1 small t below)
]

pub fresh : (ss : List ℕ) (a : ℕ) → Below a ss → a < 65536 → number_in (defs ss) (label_text a) ≡ None
fresh [] a h small = refl
fresh (s ∷ ss) a h small = elim (bytes_tell (label_text a) (label_text s)) [
  | inl same ↦
      let e : a ≡ s = label_same a s small (omega (arith, h.0, small)) same.1 in
      absurd (omega (arith, h.0, e))
  | inr other ↦ rw other.0 (fresh ss a h.1 small)
]

abbrev pub In : ℕ → List ℕ → Type 0
In s [] = ⊥
In s (x ∷ xs) = (s ≡ x) ⊎ In s xs

in_rest : (s x : ℕ) (xs : List ℕ) → s ≢ x → In s (x ∷ xs) → In s xs
in_rest s x xs apart (inl e) = absurd (apart e)
in_rest s x xs apart (inr later) = later

pub known : (ss : List ℕ) (a s : ℕ) → Below a ss → a ≤ 65536 → s < 65536 → In s ss
    → number_in (defs ss) (label_text s) ≡ Some (pos s)
known [] a s h small below there = absurd there
known (x ∷ xs) a s h small below there = elim (bytes_tell (label_text s) (label_text x)) [
  | inl same ↦
      let e : s ≡ x = label_same s x below (omega (arith, h.0, small)) same.1 in
      rw (same.0, e) refl
  | inr other ↦ rw other.0 (known xs a s h.1 small below (in_rest s x xs (λ e. other.1 (ap label_text e)) there))
]

-- ---- the addresses that get a label

module _ (profile : Profile) (cells : List (Option ℕ)) (marks : List Mark) (flags : List Bool) where
  abbrev pub named_here : Bool → ℕ → List ℕ → List ℕ
  named_here true a rest = a ∷ rest
  named_here false a rest = rest

  unfoldable pub names_from : ℕ → ℕ → ℕ → List ℕ
  names_from zero left a = []
  names_from (suc n) left a =
      by_cell (cell_at cells a) (names_from n left (a + 1))
      (λ b. let piece = piece_at profile cells marks flags a b in let named = is_named flags left a piece in
      named_here named a (names_from n (left_after named left) (a + len_of piece)))

  set_reach : (named : Bool) (table rest : List ℕ) (a s r : ℕ) → (0 < reach_at (with_reach named table a r) s) ⊎ In s rest → (0 < reach_at table s)
      ⊎ In s (named_here named a rest)
  set_reach false table rest a s r h = h
  set_reach true table rest a s r (inr there) = inr (inr there)
  set_reach true table rest a s r (inl some) = elim (eqb_tells s a) [
    | inl same ↦ inr (inl same.1)
    | inr other ↦ let e : get_or (slice_set table a r) s 0 ≡ get_or table s 0 = get_or-set_other table a s r 0 other.1 in inl (rw e at some)
  ]

  -- each label of the table is one of these
  pub reached : (n left a s : ℕ) (table : List ℕ) → 0 < reach_at (table_from profile cells marks flags n left a table) s → (0 < reach_at table s)
      ⊎ In s (names_from n left a)
  unfolding table_from names_from
  reached zero left a s table h = inl h
  reached (suc n) left a s table h = on (cell_at cells a) refl h (λ l k t g. reached n l k s t g)
    where
      on : (c : Option ℕ) → cell_at cells a ≡ c
          → 0 < reach_at (by_cell c (table_from profile cells marks flags n left (a + 1) table)
          (λ b. let piece = piece_at profile cells marks flags a b in let named = is_named flags left a piece in
          table_from profile cells marks flags n (left_after named left) (a + len_of piece) (with_reach named table a (reach_of piece)))) s
          → ((l k : ℕ) (t : List ℕ) → 0 < reach_at (table_from profile cells marks flags n l k t) s → (0 < reach_at t s) ⊎ In s (names_from n l k))
          → (0 < reach_at table s) ⊎ In s (by_cell c (names_from n left (a + 1))
          (λ b. let piece = piece_at profile cells marks flags a b in let named = is_named flags left a piece in
          named_here named a (names_from n (left_after named left) (a + len_of piece))))
      on None e h again = again left (a + 1) table h
      on (Some b) e h again =
          let piece : Piece = piece_at profile cells marks flags a b in
          let named : Bool = is_named flags left a piece in
          set_reach named table (names_from n (left_after named left) (a + len_of piece)) a s (reach_of piece)
          (again (left_after named left) (a + len_of piece) (with_reach named table a (reach_of piece)) h)

none_at : (n s : ℕ) → get_or (replicate {A = ℕ} n 0) s 0 ≡ 0
none_at n s = elim (leb_tells (suc s) n) [
  | inl inside ↦ get_or-replicate n s 0 0 inside.1
  | inr past ↦ get_or_past (replicate {A = ℕ} n 0) s 0 (omega (arith, past.1, length-replicate {A = ℕ} n 0))
]

none_is : (n : ℕ) → n ≡ 65536 → replicate {A = ℕ} n 0 ≡ no_labels
unfolding no_labels
none_is n e = ap (λ (k : ℕ). replicate {A = ℕ} k 0) e

pub no_label : (s n : ℕ) → n ≡ 65536 → reach_at no_labels s ≡ 0
no_label s n e = sym (ap (λ (x : List ℕ). get_or x s 0) (none_is n e)) ∙ none_at n s
