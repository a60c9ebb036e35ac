-- Flags of the addresses that have names.
use Rattle.std.proofs.Common.{◌≡◌, ℕ, zero, suc, ◌+◌, ◌<◌, ◌≤◌, ℤ, List, [], ◌∷◌, ◌++◌, length, Bool, true, false, Option, Some, None, cond, refl, sym, ap, ap₂, ◌∙◌, arith, add-one, take, drop, length-set, drop_of_length-le, take-append-drop}
use Rattle.std.proofs.lemmas.List.{set_past}
use Rattle.std.proofs.lemmas.Bool.{lt-ltb}
use Rattle.std.specs.Prelude.{◌||◌, find, nat_lt, slice_index, slice_set}
use Rattle.std.specs.List.{position_from}
use Rattle.std.specs.Option.{is_some, option_map}
use Rattle.model.specs.Names.{Definitions}
use Rattle.named_source.specs.Names.{IsTable, flagged_by, gives_name, index_of, looked_at, name_of, with_named}
use Rattle.named_source.proofs.Tables.{one_more}

-- ---- by the names

some_more : (i : ℕ) → nat_lt 0 (i + 1) ≡ true
some_more i = lt-ltb 0 (i + 1) (omega arith)

same_by : (b : Bool) (t : List ℕ × ℤ → Bool) (i : ℕ) (d : List ℕ × ℤ) (ds : Definitions)
    → nat_lt 0 (one_more (position_from t (i + 1) ds)) ≡ is_some (find t ds)
    → nat_lt 0 (one_more (cond b (Some i) (position_from t (i + 1) ds))) ≡ is_some (cond b (Some d) (find t ds))
same_by true t i d ds later = some_more i
same_by false t i d ds later = later

same_test : (t : List ℕ × ℤ → Bool) (i : ℕ) (ds : Definitions) → nat_lt 0 (one_more (position_from t i ds)) ≡ is_some (find t ds)
same_test t i [] = refl
same_test t i (d ∷ ds) = same_by (t d) t i d ds (same_test t (i + 1) ds)

is_mapped : {A B : Type 0} (f : A → B) (r : Option A) → is_some (option_map f r) ≡ is_some r
is_mapped f None = refl
is_mapped f (Some x) = refl

has_name : (names : Definitions) (a : ℕ) → nat_lt 0 (index_of names a) ≡ is_some (name_of names a)
unfolding name_of index_of
has_name names a = same_test (gives_name a) 0 (looked_at names) ∙ sym (is_mapped (λ d. d.0) (find (gives_name a) (looked_at names)))

flags_by : (names : Definitions) (a : ℕ) (table : List ℕ) (flags : List Bool) → length flags ≡ length table
    → ((i : ℕ) → i < length flags → slice_index table i ≡ index_of names (a + i)) → flagged_by table flags ≡ with_named names a flags
unfolding flagged_by with_named
flags_by names a table [] long each = refl
flags_by names a [] (f ∷ flags) long each = absurd (omega (arith, long))
flags_by names a (i ∷ table) (f ∷ flags) long each =
    let first : i ≡ index_of names (a + 0) = each 0 (omega arith) in
    let here : a + 0 ≡ a = omega arith in
    let named : nat_lt 0 i ≡ is_some (name_of names a) = rw (first, here) (has_name names a) in
    let rest : flagged_by table flags ≡ with_named names (a + 1) flags =
    flags_by names (a + 1) table flags (omega (arith, long))
    (λ k h. let next : a + 1 + k ≡ a + suc k = omega arith in rw next (each (suc k) (omega (arith, h)))) in
    ap₂ (λ (g : Bool) (gs : List Bool). (f || g) ∷ gs) named rest

pub flagged_names : (names : Definitions) (table : List ℕ) (flags : List Bool) → IsTable names table → length flags ≡ 65536
    → flagged_by table flags ≡ with_named names 0 flags
flagged_names names table flags is long =
    flags_by names 0 table flags (long ∙ sym is.size) (λ i h. let here : 0 + i ≡ i = omega arith in rw here (is.each i (omega (arith, h, long))))

-- ---- set one after another

-- what is set at an index
abbrev pub set_by : Bool → ℕ → List Bool → List Bool
set_by true i flags = slice_set flags i true
set_by false i flags = flags

flag_or : (f : Bool) → (f || true) ≡ true
flag_or true = refl
flag_or false = refl

flag_kept : (f : Bool) → (f || false) ≡ f
flag_kept true = refl
flag_kept false = refl

nothing_set : (b : Bool) (i : ℕ) → set_by b i [] ≡ []
nothing_set true i = refl
nothing_set false i = refl

set_behind : (b : Bool) (i : ℕ) (f : Bool) (flags : List Bool) → set_by b (suc i) (f ∷ flags) ≡ f ∷ set_by b i flags
set_behind true i f flags = refl
set_behind false i f flags = refl

one_set : (b : Bool) (i : ℕ) (table : List ℕ) (flags : List Bool) → i < length table → nat_lt 0 (slice_index table i) ≡ b
    → take (suc i) (set_by b i flags) ++ flagged_by (drop (suc i) table) (drop (suc i) (set_by b i flags)) ≡ take i flags
    ++ flagged_by (drop i table) (drop i flags)
unfolding flagged_by
one_set b i [] flags h is = absurd (omega (arith, h))
one_set b zero (n ∷ table) [] h is = rw (nothing_set b 0) refl
one_set b (suc i) (n ∷ table) [] h is = rw (nothing_set b (suc i)) refl
one_set true zero (n ∷ table) (f ∷ flags) h is = rw (is, flag_or f) refl
one_set false zero (n ∷ table) (f ∷ flags) h is = rw (is, flag_kept f) refl
one_set b (suc i) (n ∷ table) (f ∷ flags) h is =
    rw (set_behind b i f flags) (ap (λ (gs : List Bool). f ∷ gs) (one_set b i table flags (omega (arith, h)) is))

-- the flags so far, and those that are left
pub record Flags (table : List ℕ) (flags initial : List Bool) (i : ℕ) : Type 0 where
  pub size : length flags ≡ length initial
  pub same : take i flags ++ flagged_by (drop i table) (drop i flags) ≡ flagged_by table initial

pub flag_more : (table : List ℕ) (flags initial new : List Bool) (i : ℕ) (b : Bool) → i < length table → nat_lt 0 (slice_index table i) ≡ b
    → new ≡ set_by b i flags → Flags table flags initial i → Flags table new initial (i + 1)
flag_more table flags initial new i b h is new_is f = rw (new_is, add-one) (record {
  size = kept b ∙ f.size;
  same = one_set b i table flags h is ∙ f.same;
})
  where
    kept : (b : Bool) → length (set_by b i flags) ≡ length flags
    kept true = length-set flags i true
    kept false = refl

no_table : (flags : List Bool) → flagged_by [] flags ≡ flags
unfolding flagged_by
no_table [] = refl
no_table (f ∷ flags) = refl

pub nothing_more : (table : List ℕ) (flags initial : List Bool) (i : ℕ) → length table ≤ i → Flags table flags initial i → flags ≡ flagged_by table initial
nothing_more table flags initial i h f =
    let none : drop i table ≡ [] = drop_of_length-le table h in
    sym (take-append-drop i flags) ∙ (ap (λ (gs : List Bool). take i flags ++ gs) (sym (no_table (drop i flags)))
    ∙ (ap (λ (ns : List ℕ). take i flags ++ flagged_by ns (drop i flags)) (sym none) ∙ f.same))

pub past_end : (flags : List Bool) (i : ℕ) → length flags ≤ i → flags ≡ slice_set flags i true
past_end flags i h = sym (set_past flags i true h)
