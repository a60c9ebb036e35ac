-- The names of addresses, noted in a table one definition after another.
use Rattle.std.proofs.Common.{◌≡◌, ℕ, zero, suc, ◌+◌, ◌<◌, ◌≤◌, ℤ, List, [], ◌∷◌, length, Bool, true, false, Option, Some, None, cond, refl, sym, ◌∙◌, arith, add-one, drop, take, length-take, drop_of_length-le}
use Rattle.std.specs.Prelude.{◌==◌, ◌&&◌, nat_lt, if◌then◌else◌, slice_get, slice_index}
use Rattle.std.specs.List.{position_from}
use Rattle.std.specs.Option.{option_map_or}
use Rattle.std.proofs.lemmas.Bool.{ltb-true, ltb-false, ne_eqb}
use Rattle.model.specs.Names.{Definitions}
use Rattle.named_source.specs.Names.{gives_name, index_of, looked_at, IsTable, noted}

abbrev pub or_later : ℕ → ℕ → ℕ
or_later zero later = later
or_later (suc cell) later = suc cell

abbrev pub one_more : Option ℕ → ℕ
one_more place = option_map_or (λ i. i + 1) place 0

-- what an address's cell is to be, by the definitions from an index on
abbrev pub still : ℕ → ℕ → Definitions → ℕ
still address i definitions = one_more (position_from (gives_name address) i (drop i definitions))

filled_cell : (n : ℕ) → (suc n == 0) ≡ false
filled_cell n = ne_eqb (suc n) 0 (λ e. absurd (omega (arith, e)))

by_test : (b : Bool) (cell i : ℕ) (p : Option ℕ) (whole : ℕ) → or_later cell (one_more (cond b (Some i) p)) ≡ whole
    → or_later (if (cell == 0) && true && b then i + 1 else cell) (one_more p) ≡ whole
by_test true zero i p whole e = rw add-one (rw add-one at e)
by_test true (suc n) i p whole e = rw (filled_cell n) e
by_test false zero i p whole e = e
by_test false (suc n) i p whole e = rw (filled_cell n) e

unseen : (b : Bool) (cell i : ℕ) → (if (cell == 0) && false && b then i + 1 else cell) ≡ cell
unseen b zero i = refl
unseen b (suc n) i = rw (filled_cell n) refl

cut : (xs : Definitions) (n i : ℕ) (d : List ℕ × ℤ) → i < n → slice_get xs i ≡ Some d → drop i (take n xs) ≡ d ∷ drop (suc i) (take n xs)
cut [] n i d h e = absurd cc
cut (x ∷ xs) zero i d h e = absurd (omega (arith, h))
cut (x ∷ xs) (suc n) zero d h e = cc
cut (x ∷ xs) (suc n) (suc i) d h e = cut xs n i d (omega (arith, h)) e

past : (xs : Definitions) (n i : ℕ) → n ≤ i → drop i (take n xs) ≡ []
past xs n i h = drop_of_length-le (take n xs) (omega (arith, h, length-take n xs))

-- a definition more
step : (n i : ℕ) (names : Definitions) (a : ℕ) (d : List ℕ × ℤ) (cell whole : ℕ) → slice_get names i ≡ Some d → or_later cell (still a i (take n names)) ≡ whole
    → or_later (if (cell == 0) && nat_lt i n && gives_name a d then i + 1 else cell) (still a (i + 1) (take n names)) ≡ whole
step n i names a d cell whole at e = by (nat_lt i n) refl
  where
    by : (b : Bool) → nat_lt i n ≡ b → or_later (if (cell == 0) && nat_lt i n && gives_name a d then i + 1 else cell) (still a (i + 1) (take n names)) ≡ whole
    by true h =
        let one : drop i (take n names) ≡ d ∷ drop (i + 1) (take n names) = rw add-one (cut names n i d (ltb-true i n h) at) in
        rw h (by_test (gives_name a d) cell i (position_from (gives_name a) (i + 1) (drop (i + 1) (take n names))) whole (rw one at e))
    by false h =
        let here : drop i (take n names) ≡ [] = past names n i (ltb-false i n h) in
        let next : drop (i + 1) (take n names) ≡ [] = past names n (i + 1) (omega (arith, ltb-false i n h)) in
        rw (h, next, unseen (gives_name a d) cell i) (rw here at e)

-- what the cells of a table are while it is made
pub record Fills (names : Definitions) (table : List ℕ) (i : ℕ) : Type 0 where
  pub size : length table ≡ 65536
  pub each : (a : ℕ) → a < 65536 → or_later (slice_index table a) (still a i (looked_at names)) ≡ index_of names a

pub fills_none : (names : Definitions) (table : List ℕ) → length table ≡ 65536 → ((a : ℕ) → slice_index table a ≡ 0) → Fills names table 0
unfolding index_of
fills_none names table size none = record {
  size = size;
  each = λ a h. rw (none a) refl;
}

pub fills_more : (names : Definitions) (table new : List ℕ) (i : ℕ) (d : List ℕ × ℤ) → slice_get names i ≡ Some d → Fills names table i → length new ≡ 65536
    → ((a : ℕ) → a < 65536 → slice_index new a ≡ noted i d a (slice_index table a)) → Fills names new (i + 1)
unfolding looked_at
fills_more names table new i d at f size each = record {
  size = size;
  each = λ a h. rw (each a h) (step 65535 i names a d (slice_index table a) (index_of names a) at (f.each a h));
}

no_more : (cell : ℕ) → or_later cell 0 ≡ cell
no_more zero = refl
no_more (suc cell) = refl

all_past : (n i : ℕ) (names : Definitions) → length names ≤ i → drop i (take n names) ≡ []
all_past n i names h = drop_of_length-le (take n names) (omega (arith, h, length-take n names))

pub filled : (names : Definitions) (table : List ℕ) (i : ℕ) → length names ≤ i → Fills names table i → IsTable names table
unfolding looked_at
filled names table i h f = record {
  size = f.size;
  each = λ a b. let none : drop i (take 65535 names) ≡ [] = all_past 65535 i names h in
      sym (no_more (slice_index table a)) ∙ rw none at (f.each a b);
}

pub is_there : (names : Definitions) (i : ℕ) → i < length names → slice_get names i ≡ None → ⊥
is_there [] i h e = absurd (omega (arith, h))
is_there (d ∷ names) zero h e = absurd cc
is_there (d ∷ names) (suc i) h e = is_there names i (omega (arith, h)) e
