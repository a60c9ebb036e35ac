-- A table that takes a row at one address after another.
use Rattle.std.proofs.Common.{◌≡◌, ◌∙◌, ℕ, ◌+◌, ◌-◌, ◌<◌, ◌≤◌, ◌++◌, Bool, true, false, List, [], ◌∷◌, Option, Some, None, length, drop, get_or, set, min, refl, sym, ap, subst, arith, inl, inr}
use Rattle.std.specs.Prelude.{◌==◌, ◌&&◌, nat_le, nat_lt, if◌then◌else◌, replicate}
use Rattle.std.proofs.lemmas.Bool.{and_left, and_right, cases_eq, cases_lt, eq-eqb, le-leb, le-ltb, lt-leb, lt-ltb, ltb-false, ltb-true, ne_eqb}
use Rattle.std.proofs.lemmas.List.{drop_all, drop_more, get_or-replicate, get_or-set_other, get_or-set_same, length-replicate, length-set}
use Rattle.debug_records.specs.Info.{record_at}
use Rattle.debug_records.specs.Rows.{IsTable, behind, best_of, better, passes, with_row}
use Rattle.debug_records.specs.declared.row.Row.{Row}
use Rattle.debug_records.specs.declared.row.Wanted.{Wanted}
use Rattle.debug_records.specs.declared.row.Wanted.TheVariants as wants

-- whether an address is among those from one on and before another
abbrev pub within : ℕ → ℕ → ℕ → Bool
within first past address = nat_le first address && nat_lt address past

-- What an address has when the row was taken at these.
abbrev pub so_far : Wanted → Row → ℕ → ℕ → ℕ → Option Row → Option Row
so_far wanted row first past address best = if within first past address then Some (better wanted best row) else best

pub record Taken (wanted : Wanted) (row : Row) (first : ℕ) (old table : List (Option Row)) (past : ℕ) : Type 0 where
  pub size : length table ≡ 65536
  pub rows : (address : ℕ) → address < 65536 → record_at table address ≡ so_far wanted row first past address (record_at old address)

-- ---- which addresses they are

outside : (first past address : ℕ) → past ≤ first → within first past address ≡ false
outside first past address h = elim (cases_lt address first) [
  | inl below ↦ and_left (nat_le first address) (nat_lt address past) (lt-leb first address below)
  | inr above ↦ and_right (nat_le first address) (nat_lt address past) (le-ltb address past (omega arith))
]

inside : (first past address : ℕ) → first ≤ address → address < past → within first past address ≡ true
inside first past address h k = ap (λ b. b && nat_lt address past) (le-leb first address h) ∙ lt-ltb address past k

below : (first past address : ℕ) → address < first → within first past address ≡ false
below first past address h = and_left (nat_le first address) (nat_lt address past) (lt-leb first address h)

above : (first past address : ℕ) → past ≤ address → within first past address ≡ false
above first past address h = and_right (nat_le first address) (nat_lt address past) (le-ltb address past h)

-- the same addresses below 65,536
same_within : (first past address : ℕ) → address < 65536 → within (min first 65536) (min past 65536) address ≡ within first past address
same_within first past address h = elim (cases_lt address first) [
  | inl under ↦ below (min first 65536) (min past 65536) address (omega arith) ∙ sym (below first past address under)
  | inr from ↦ elim (cases_lt address past) [
    | inl before ↦ inside (min first 65536) (min past 65536) address (omega arith) (omega arith) ∙ sym (inside first past address from before)
    | inr behind_it ↦ above (min first 65536) (min past 65536) address (omega arith) ∙ sym (above first past address behind_it)
  ]
]

first_byte : (row : Row) (address : ℕ) (b : Bool) → nat_lt row.start row.end ≡ b
    → within row.start (if b then row.start + 1 else row.start) address ≡ (within row.start row.end address && row.start == address)
first_byte row address true h = elim (cases_eq row.start address) [
  | inl same ↦ inside row.start (row.start + 1) address (omega (arith, same)) (omega (arith, same))
      ∙ sym (ap (λ b. b && (row.start == address)) (inside row.start row.end address (omega (arith, same))
      (omega (arith, same, ltb-true row.start row.end h))) ∙ eq-eqb row.start address same)
  | inr other ↦ elim (cases_lt address row.start) [
    | inl under ↦ below row.start (row.start + 1) address under
        ∙ sym (and_right (within row.start row.end address) (row.start == address) (ne_eqb row.start address other))
    | inr from ↦ above row.start (row.start + 1) address (omega (arith, other, from))
        ∙ sym (and_right (within row.start row.end address) (row.start == address) (ne_eqb row.start address other))
  ]
]
first_byte row address false h = outside row.start row.start address (omega arith)
    ∙ sym (and_left (within row.start row.end address) (row.start == address) (outside row.start row.end address (ltb-false row.start row.end h)))

pub passes_within : (wanted : Wanted) (row : Row) (address : ℕ) → within row.start (behind wanted row) address ≡ passes wanted address row
passes_within wants.Shown row address = refl
passes_within wants.Begun row address = first_byte row address (nat_lt row.start row.end) refl

-- ---- a row more

pub none_taken : (wanted : Wanted) (row : Row) (first : ℕ) (table : List (Option Row)) → length table ≡ 65536 → Taken wanted row first table table first
none_taken wanted row first table h = record {
  size = h;
  rows = λ address k. sym (ap (λ b. if b then Some (better wanted (record_at table address) row) else record_at table address)
      (outside first first address (omega arith)));
}

one_more : (first past address : ℕ) → (address ≡ past → ⊥) → within first (past + 1) address ≡ within first past address
one_more first past address apart = elim (cases_lt address past) [
  | inl h ↦ ap (λ b. nat_le first address && b) (lt-ltb address (past + 1) (omega arith) ∙ sym (lt-ltb address past h))
  | inr h ↦ ap (λ b. nat_le first address && b) (le-ltb address (past + 1) (omega (arith, apart, h)) ∙ sym (le-ltb address past h))
]

taken_here : (wanted : Wanted) (row : Row) (first past : ℕ) (old table : List (Option Row)) → first ≤ past → past < 65536
    → Taken wanted row first old table past
    → Some (better wanted (record_at table past) row) ≡ so_far wanted row first (past + 1) past (record_at old past)
taken_here wanted row first past old table h k t =
    let untouched : record_at table past ≡ record_at old past = t.rows past k
    ∙ ap (λ b. if b then Some (better wanted (record_at old past) row) else record_at old past) (above first past past (omega arith)) in
    ap (λ best. Some (better wanted best row)) untouched
    ∙ sym (ap (λ b. if b then Some (better wanted (record_at old past) row) else record_at old past) (inside first (past + 1) past h (omega arith)))

pub taken_more : (wanted : Wanted) (row : Row) (first past : ℕ) (old table new : List (Option Row)) → first ≤ past → past < 65536
    → new ≡ set table past (Some (better wanted (record_at table past) row)) → Taken wanted row first old table past → Taken wanted row first old new (past + 1)
taken_more wanted row first past old table new h k e t = record {
  size = ap length e ∙ (length-set table past _ ∙ t.size);
  rows = λ address l. elim (cases_eq address past) [
    | inl same ↦ subst (λ a. record_at new a ≡ so_far wanted row first (past + 1) a (record_at old a)) (sym same)
        (ap (λ ts. record_at ts past) e ∙ (get_or-set_same table past _ None (omega (arith, t.size, k)) ∙ taken_here wanted row first past old table h k t))
    | inr other ↦ ap (λ ts. record_at ts address) e ∙ (get_or-set_other table past address _ None other ∙ (t.rows address l
        ∙ sym (ap (λ b. if b then Some (better wanted (record_at old address) row) else record_at old address) (one_more first past address other))))
  ];
}

clamped : (first past address : ℕ) → within (min first past) past address ≡ within first past address
clamped first past address = elim (cases_lt past first) [
  | inl h ↦ outside (min first past) past address (omega arith) ∙ sym (outside first past address (omega arith))
  | inr h ↦ let e : min first past ≡ first = omega arith in ap (λ n. within n past address) e
]

pub all_taken : (wanted : Wanted) (row : Row) (first past at : ℕ) (old table : List (Option Row)) → past ≡ min (behind wanted row) 65536
    → first ≡ min (min row.start 65536) past → at ≡ past → Taken wanted row first old table at
    → IsTable table (λ address. with_row wanted address (record_at old address) row)
all_taken wanted row first past at old table p f e t =
    let from = min row.start 65536 in record {
      size = t.size;
      rows = λ address h. t.rows address h
          ∙ ap (λ b. if b then Some (better wanted (record_at old address) row) else record_at old address)
          (ap (λ n. within first n address) e ∙ (ap (λ n. within n past address) f ∙ (clamped from past address
          ∙ (ap (λ n. within from n address) p ∙ (same_within row.start (behind wanted row) address h ∙ passes_within wanted row address)))));
    }

-- ---- all rows

pub no_rows : (table : List (Option Row)) → table ≡ [] ++ replicate (65536 - length {A = Option Row} []) None → IsTable table (λ address. None)
no_rows table e = record {
  size = ap length e ∙ length-replicate {A = Option Row} 65536 None;
  rows = λ address h. ap (λ t. record_at t address) e ∙ get_or-replicate {A = Option Row} 65536 address None None h;
}

-- What each address has in the end, by what it has now and the rows that are left.
pub record Left (wanted : Wanted) (rows left : List Row) (table : List (Option Row)) : Type 0 where
  pub size : length table ≡ 65536
  pub rest : (address : ℕ) → address < 65536 → best_of wanted address (record_at table address) left ≡ best_of wanted address None rows

pub all_left : (wanted : Wanted) (rows : List Row) (table : List (Option Row)) → IsTable table (λ address. None) → Left wanted rows rows table
all_left wanted rows table t = record {
  size = t.size;
  rest = λ address h. ap (λ best. best_of wanted address best rows) (t.rows address h);
}

pub row_put : (wanted : Wanted) (d : Row) (rows : List Row) (i : ℕ) (table new : List (Option Row)) → i < length rows
    → IsTable new (λ address. with_row wanted address (record_at table address) (get_or rows i d)) → Left wanted rows (drop i rows) table
    → Left wanted rows (drop (i + 1) rows) new
row_put wanted d rows i table new h t l =
    let step : drop i rows ≡ get_or rows i d ∷ drop (i + 1) rows = drop_more rows i d h in record {
      size = t.size;
      rest = λ address k. ap (λ best. best_of wanted address best (drop (i + 1) rows)) (t.rows address k)
          ∙ (sym (ap (best_of wanted address (record_at table address)) step) ∙ l.rest address k);
    }

pub none_left : (wanted : Wanted) (rows : List Row) (i : ℕ) (table : List (Option Row)) → length rows ≤ i → Left wanted rows (drop i rows) table
    → IsTable table (λ address. best_of wanted address None rows)
none_left wanted rows i table h l = record {
  size = l.size;
  rows = λ address k. sym (ap (best_of wanted address (record_at table address)) (drop_all i rows h)) ∙ l.rest address k;
}
