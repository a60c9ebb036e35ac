-- The name of an address, by its cell of a table.
use Rattle.std.proofs.Common.{◌≡◌, ℕ, zero, suc, ◌+◌, ◌-◌, ◌<◌, ◌≤◌, ℤ, List, [], ◌∷◌, Bool, true, false, Option, Some, None, cond, refl, sym, ap, ◌∙◌, arith, take}
use Rattle.std.specs.Prelude.{find, slice_get, slice_index}
use Rattle.std.specs.List.{position_from}
use Rattle.std.specs.Option.{option_map}
use Rattle.model.specs.Names.{Definitions}
use Rattle.named_source.specs.Names.{IsTable, gives_name, index_of, looked_at, name_of}
use Rattle.named_source.proofs.Tables.{one_more}

-- where it stands
pub record StandsAt (t : List ℕ × ℤ → Bool) (ds : Definitions) (i k : ℕ) : Type 0 where
  pub behind : i ≤ k
  pub here : slice_get ds (k - i) ≡ find t ds

stands_by : (b : Bool) (t : List ℕ × ℤ → Bool) (i k : ℕ) (d : List ℕ × ℤ) (ds : Definitions) → t d ≡ b
    → (position_from t (i + 1) ds ≡ Some k → StandsAt t ds (i + 1) k)
    → cond b (Some i) (position_from t (i + 1) ds) ≡ Some k → StandsAt t (d ∷ ds) i k
stands_by true t i k d ds is later e =
    let same : i ≡ k = cc in
    let none : k - i ≡ 0 = omega (arith, same) in
    record { behind = omega (arith, same); here = rw (none, is) refl }
stands_by false t i k d ds is later e =
    let l : StandsAt t ds (i + 1) k = later e in
    let one : k - i ≡ suc (k - (i + 1)) = omega (arith, l.behind) in
    record { behind = omega (arith, l.behind); here = rw (one, is) l.here }

stands : (t : List ℕ × ℤ → Bool) (i k : ℕ) (ds : Definitions) → position_from t i ds ≡ Some k → StandsAt t ds i k
stands t i k [] e = absurd cc
stands t i k (d ∷ ds) e = stands_by (t d) t i k d ds refl (stands t (i + 1) k ds) e

none_by : (b : Bool) (t : List ℕ × ℤ → Bool) (i : ℕ) (d : List ℕ × ℤ) (ds : Definitions) → (position_from t (i + 1) ds ≡ None → find t ds ≡ None)
    → cond b (Some i) (position_from t (i + 1) ds) ≡ None → cond b (Some d) (find t ds) ≡ None
none_by true t i d ds later e = absurd cc
none_by false t i d ds later e = later e

none_stands : (t : List ℕ × ℤ → Bool) (i : ℕ) (ds : Definitions) → position_from t i ds ≡ None → find t ds ≡ None
none_stands t i [] e = refl
none_stands t i (d ∷ ds) e = none_by (t d) t i d ds (none_stands t (i + 1) ds) e

within : (n i : ℕ) (ds : Definitions) → i < n → slice_get (take n ds) i ≡ slice_get ds i
within zero i ds h = absurd (omega (arith, h))
within (suc n) i [] h = refl
within (suc n) zero (d ∷ ds) h = refl
within (suc n) (suc i) (d ∷ ds) h = within n i ds (omega (arith, h))

none_named : (t : List ℕ × ℤ → Bool) (ds : Definitions) (p : Option ℕ) → position_from t 0 ds ≡ p → one_more p ≡ 0 → find t ds ≡ None
none_named t ds None is e = none_stands t 0 ds is
none_named t ds (Some k) is e = absurd (omega (arith, e))

named_at : (t : List ℕ × ℤ → Bool) (n : ℕ) (ds : Definitions) (p : Option ℕ) (i : ℕ) → position_from t 0 (take n ds) ≡ p → one_more p ≡ i → 0 < i
    → i ≤ n → slice_get ds (i - 1) ≡ find t (take n ds)
named_at t n ds None i is e some few = absurd (omega (arith, e, some))
named_at t n ds (Some k) i is e some few =
    let s : StandsAt t (take n ds) 0 k = stands t 0 k (take n ds) is in
    let same : i - 1 ≡ k = omega (arith, e) in
    let front : k - 0 ≡ k = omega arith in
    let inside : k < n = omega (arith, e, few) in
    rw same (sym (within n k ds inside) ∙ rw front at s.here)

pub no_name : (names : Definitions) (table : List ℕ) (a : ℕ) → IsTable names table → a < 65536 → slice_index table a ≡ 0 → name_of names a ≡ None
unfolding name_of index_of looked_at
no_name names table a is below e =
    ap (λ (r : Option (List ℕ × ℤ)). option_map (λ d. d.0) r)
    (none_named (gives_name a) (take 65535 names) (position_from (gives_name a) 0 (take 65535 names)) refl (sym (is.each a below) ∙ e))

pub a_name : (names : Definitions) (table : List ℕ) (a i : ℕ) → IsTable names table → a < 65536 → slice_index table a ≡ i → 0 < i → i < 65536
    → option_map (λ d. d.0) (slice_get names (i - 1)) ≡ name_of names a
unfolding name_of index_of looked_at
a_name names table a i is below e some few =
    ap (λ (r : Option (List ℕ × ℤ)). option_map (λ d. d.0) r)
    (named_at (gives_name a) 65535 names (position_from (gives_name a) 0 (take 65535 names)) i refl (sym (is.each a below) ∙ e) some (omega (arith, few)))
