-- Tables of indices, filled row by row.
use Rattle.std.proofs.Common.{◌≡◌, ◌∙◌, ℕ, zero, suc, ◌+◌, ◌<◌, ◌≤◌, Bool, true, false, cond, List, [], ◌∷◌, ◌++◌, Option, Some, None, ℤ, append-nil, length, take, get_or, refl, sym, ap, subst, arith, add-one, inl, inr}
use Rattle.std.specs.Prelude.{◌==◌, ◌&&◌, nat_le, pos, negsuc, not, is_none, is_some, if◌then◌else◌, map, nat_lt, position, replicate, slice_get, slice_index, slice_set}
use Rattle.std.specs.List.{position_or_len, zip}
use Rattle.std.specs.Option.{option_or, option_to_list}
use Rattle.std.proofs.lemmas.List.{append_assoc, get_or-map, get_or-replicate, get_or-set_same, get_or-set_other, length-map, length-replicate, length-set, length_push, length-take, take_more, take_all, take-take}
use Rattle.std.proofs.lemmas.List.Folds.{position_or_len_push}
use Rattle.std.proofs.lemmas.List.Sums.{prefix_len-le-length}
use Rattle.std.proofs.lemmas.Bool.{cases_eq, cases_lt, eq-eqb, eqb-true, eqb-false, le-ltb, leb-true, lt-ltb, ne_eqb}
use Rattle.source_map.specs.Names.{named_numbers}
use Rattle.model.specs.Image.{cell_at}
use Rattle.model.specs.Names.{Definitions}
use Rattle.assembler.specs.Assembly.{AssemblyView}
use Rattle.assembler.specs.Lines.{LineView}
use Rattle.trace_rows.specs.declared.lines.SourceLine.{SourceLine}
use Rattle.trace_rows.specs.declared.sites.Label.{Label}
use Rattle.trace_rows.specs.SourceLines.{Listed, line_of, lines_of, listed}
use Rattle.trace_rows.specs.Sites.{AreLabels, IsTable, Labelled, Numbered, addresses_of, first_at, index_at, index_of, is_wanted, label_for, label_place, labelled, labels_in, line_addresses, name_if_free, name_of, names_in, names_of, nowhere, or_below, put_if_none}

-- ---- options

pub or_none : {T : Type 0} (o : Option T) → option_or o None ≡ o
or_none None = refl
or_none (Some x) = refl

pub index_or : (x y : ℕ) → index_of (if x == 0 then y else x) ≡ option_or (index_of x) (index_of y)
index_or zero y = refl
index_or (suc x) y = ap (λ b. index_of (if b then y else suc x)) (ne_eqb (suc x) 0 (λ e. omega (arith, e)))

pub index_if : (b : Bool) (x : ℕ) → index_of (if b then x else 0) ≡ (if b then index_of x else None)
index_if true x = refl
index_if false x = refl

-- ---- a number put where nothing is

at_put : (table : List ℕ) (address number : ℕ) (b : Bool) → (slice_index table address == 0) ≡ b → address < length table
    → slice_index (put_if_none table address number) address ≡ (if b then number else slice_index table address)
at_put table address number true e h = ap (λ b. slice_index (if b then slice_set table address number else table) address) e
    ∙ get_or-set_same table address number 0 h
at_put table address number false e h = ap (λ b. slice_index (if b then slice_set table address number else table) address) e

past_put : (table : List ℕ) (address number other : ℕ) (b : Bool) → (slice_index table address == 0) ≡ b → (other ≡ address → ⊥)
    → slice_index (put_if_none table address number) other ≡ slice_index table other
past_put table address number other true e h = ap (λ b. slice_index (if b then slice_set table address number else table) other) e
    ∙ get_or-set_other table address other number 0 h
past_put table address number other false e h = ap (λ b. slice_index (if b then slice_set table address number else table) other) e

pub put_there : (table : List ℕ) (address number : ℕ) → address < length table
    → slice_index (put_if_none table address number) address ≡ (if slice_index table address == 0 then number else slice_index table address)
put_there table address number h = at_put table address number (slice_index table address == 0) refl h

pub put_elsewhere : (table : List ℕ) (address number other : ℕ) → (other ≡ address → ⊥)
    → slice_index (put_if_none table address number) other ≡ slice_index table other
put_elsewhere table address number other h = past_put table address number other (slice_index table address == 0) refl h

size_by : (table : List ℕ) (address number : ℕ) (b : Bool) → length (if b then slice_set table address number else table) ≡ length table
size_by table address number true = length-set table address number
size_by table address number false = refl

pub put_size : (table : List ℕ) (address number : ℕ) → length (put_if_none table address number) ≡ length table
put_size table address number = size_by table address number (slice_index table address == 0)

-- ---- the first row at an address

found : ℕ → ℕ → Option ℕ
found at size = if nat_lt at size then Some at else None

found_before : (at size : ℕ) → at < size → found at size ≡ Some at
unfolding found
found_before at size h = ap (λ b. if b then Some at else None) (lt-ltb at size h)

found_none : (at size : ℕ) → size ≤ at → found at size ≡ None
unfolding found
found_none at size h = ap (λ b. if b then Some at else None) (le-ltb at size h)

found_is : (p : ℕ → Bool) (xs : List ℕ) → position p xs ≡ found (position_or_len p xs) (length xs)
unfolding found
found_is p xs = refl

last_by : (n : ℕ) (b : Bool) → found (n + cond b 0 1) (n + 1) ≡ (if b then Some n else None)
last_by n true = let e : n + 0 ≡ n = omega arith in ap (λ k. found k (n + 1)) e ∙ found_before n (n + 1) (omega arith)
last_by n false = found_none (n + 1) (n + 1) (omega arith)

pub position_push : (p : ℕ → Bool) (xs : List ℕ) (y : ℕ) → position p (xs ++ y ∷ []) ≡ option_or (position p xs) (if p y then Some (length xs) else None)
position_push p xs y =
    let at = position_or_len p xs in
    let n = length xs in
    let whole : position p (xs ++ y ∷ []) ≡ found (cond (at == n) (n + cond (p y) 0 1) at) (n + 1) =
    found_is p (xs ++ y ∷ []) ∙ (ap (λ k. found k (length (xs ++ y ∷ []))) (position_or_len_push p xs y)
    ∙ ap (found (cond (at == n) (n + cond (p y) 0 1) at)) (length_push xs y)) in
    elim (cases_lt at n) [
      | inl before ↦
          let apart : (at == n) ≡ false = ne_eqb at n (λ e. omega (arith, e, before)) in
          whole ∙ (ap (λ b. found (cond b (n + cond (p y) 0 1) at) (n + 1)) apart ∙ (found_before at (n + 1) (omega arith)
          ∙ ap (λ o. option_or o (if p y then Some n else None)) (sym (found_is p xs ∙ found_before at n before))))
      | inr past ↦
          let le : at ≤ n = prefix_len-le-length (λ x. not (p x)) xs in
          let same : (at == n) ≡ true = eq-eqb at n (omega arith) in
          whole ∙ (ap (λ b. found (cond b (n + cond (p y) 0 1) at) (n + 1)) same ∙ (last_by n (p y)
          ∙ ap (λ o. option_or o (if p y then Some n else None)) (sym (found_is p xs ∙ found_none at n past))))
    ]

pub first_none : (address : ℕ) → first_at [] address ≡ None
unfolding first_at
first_none address = refl

-- What one more row adds.
abbrev pub next_at : ℕ → ℕ → ℕ → Option ℕ
next_at row index address = if row == address then (if nat_lt index 4294967295 then Some index else None) else None

next_by : (b : Bool) (index : ℕ) → nat_lt index 4294967295 ≡ true
    → (if b then Some index else None) ≡ (if b then (if nat_lt index 4294967295 then Some index else None) else None)
next_by b index e = ap (λ r. if b then (if r then Some index else None) else None) (sym e)

next_past : (b : Bool) (index : ℕ) → nat_lt index 4294967295 ≡ false → (if b then (if nat_lt index 4294967295 then Some index else None) else None) ≡ None
next_past true index e = ap (λ r. if r then Some index else None) e
next_past false index e = refl

pub first_more : (xs : List ℕ) (i address : ℕ) → i < length xs
    → first_at (take (i + 1) xs) address ≡ option_or (first_at (take i xs) address) (next_at (get_or xs i 0) i address)
unfolding first_at
first_more xs i address h =
    let p : ℕ → Bool = λ a. a == address in
    let row = get_or xs i 0 in
    let size : length (take i xs) ≡ i = omega (arith, length-take i xs) in
    let more : take (i + 1) xs ≡ take i xs ++ row ∷ [] = take_more xs i 0 h in
    elim (cases_lt i 4294967295) [
      | inl within ↦
          let all : take 4294967295 (take i xs) ≡ take i xs = take_all 4294967295 (take i xs) (omega (arith, size)) in
          let whole : take 4294967295 (take (i + 1) xs) ≡ take i xs ++ row ∷ [] =
          take_all 4294967295 (take (i + 1) xs) (omega (arith, length-take (i + 1) xs)) ∙ more in
          ap (position p) whole ∙ (position_push p (take i xs) row
          ∙ (ap (λ n. option_or (position p (take i xs)) (if p row then Some n else None)) size
          ∙ (ap (λ ys. option_or (position p ys) (if p row then Some i else None)) (sym all)
          ∙ ap (option_or (position p (take 4294967295 (take i xs)))) (next_by (p row) i (lt-ltb i 4294967295 within)))))
      | inr past ↦
          let same : take 4294967295 (take (i + 1) xs) ≡ take 4294967295 (take i xs) =
          take-take 4294967295 (i + 1) xs (omega (arith, past)) ∙ sym (take-take 4294967295 i xs past) in
          ap (position p) same ∙ (sym (or_none (position p (take 4294967295 (take i xs))))
          ∙ ap (option_or (position p (take 4294967295 (take i xs)))) (sym (next_past (p row) i (le-ltb i 4294967295 past))))
    ]

-- A table after one more row.
abbrev pub put_row : List ℕ → ℕ → ℕ → List ℕ
put_row table address index = if nat_lt index 4294967295 then put_if_none table address (index + 1) else table

put_at : (table : List ℕ) (row index address : ℕ) → address < length table → row ≡ address
    → index_at (put_if_none table row (index + 1)) address ≡ option_or (index_at table address) (Some index)
put_at table row index address h e =
    subst (λ a. index_at (put_if_none table row (index + 1)) a ≡ option_or (index_at table a) (Some index)) e
    (ap index_of (put_there table row (index + 1) (omega (arith, e, h))) ∙ (index_or (slice_index table row) (index + 1)
    ∙ ap (λ n. option_or (index_at table row) (index_of n)) (add-one index)))

put_by : (table : List ℕ) (row index address : ℕ) (b c : Bool) → (row == address) ≡ b → nat_lt index 4294967295 ≡ c → address < length table
    → index_at (if c then put_if_none table row (index + 1) else table) address
    ≡ option_or (index_at table address) (if b then (if c then Some index else None) else None)
put_by table row index address true true e l h = put_at table row index address h (eqb-true row address e)
put_by table row index address false true e l h = ap index_of
    (put_elsewhere table row (index + 1) address (λ same. eqb-false row address e (sym same))) ∙ sym (or_none (index_at table address))
put_by table row index address true false e l h = sym (or_none (index_at table address))
put_by table row index address false false e l h = sym (or_none (index_at table address))

pub row_put : (table : List ℕ) (row index address : ℕ) → address < length table
    → index_at (put_row table row index) address ≡ option_or (index_at table address) (next_at row index address)
row_put table row index address h = put_by table row index address (row == address) (nat_lt index 4294967295) refl refl h

row_size_by : (table : List ℕ) (row number : ℕ) (b : Bool) → length (if b then put_if_none table row number else table) ≡ length table
row_size_by table row number true = put_size table row number
row_size_by table row number false = refl

or_assoc : {T : Type 0} (a b c : Option T) → option_or (option_or a b) c ≡ option_or a (option_or b c)
or_assoc None b c = refl
or_assoc (Some x) b c = refl

-- A table has one more of some rows, where an address has nothing else.
pub row_more : (base : ℕ → Option ℕ) (table new : List ℕ) (rows : List ℕ) (i row : ℕ) → i < length rows → row ≡ get_or rows i 0
    → new ≡ put_row table row i → IsTable table (λ address. option_or (base address) (first_at (take i rows) address))
    → IsTable new (λ address. option_or (base address) (first_at (take (i + 1) rows) address))
row_more base table new rows i row h r e t = record {
  size = ap length e ∙ (row_size_by table row (i + 1) (nat_lt i 4294967295) ∙ t.size);
  rows = λ address below.
      ap (λ ns. index_at ns address) e ∙ (row_put table row i address (omega (arith, below, t.size))
      ∙ (ap (λ o. option_or o (next_at row i address)) (t.rows address below)
      ∙ (or_assoc (base address) (first_at (take i rows) address) (next_at row i address)
      ∙ ap (option_or (base address)) (ap (λ n. option_or (first_at (take i rows) address) (next_at n i address)) r ∙ sym (first_more rows i address h)))));
}

pub no_rows : (table : List ℕ) (rows : List ℕ) → length table ≡ 65536
    → IsTable table (λ address. option_or (index_at table address) (first_at (take 0 rows) address))
no_rows table rows size = record {
  size = size;
  rows = λ address below.
      sym (ap (option_or (index_at table address)) (first_none address) ∙ or_none (index_at table address));
}

pub all_rows : (base : ℕ → Option ℕ) (table : List ℕ) (rows : List ℕ) (i : ℕ) → length rows ≤ i
    → IsTable table (λ address. option_or (base address) (first_at (take i rows) address))
    → IsTable table (λ address. option_or (base address) (first_at rows address))
all_rows base table rows i h t = subst (λ ns. IsTable table (λ address. option_or (base address) (first_at ns address))) (take_all i rows h) t

-- What stands in a table of nothing, where something may stand besides.
pub over_none : (empty table : List ℕ) (place : ℕ → Option ℕ) → IsTable empty (λ address. None)
    → IsTable table (λ address. option_or (index_at empty address) (place address)) → IsTable table place
over_none empty table place none t = record {
  size = t.size;
  rows = λ address below. t.rows address below ∙ ap (λ o. option_or o (place address)) (none.rows address below);
}

-- The addresses of names and of lines.
pub label_rows : (labels : List Label) (i : ℕ) → length labels ≤ i → length (addresses_of (map labelled labels)) ≤ i
label_rows labels i h = omega (arith, h, length-map labels labelled, length-map (map labelled labels) (λ (l : Labelled). l.address))

pub label_size : (labels : List Label) (i : ℕ) → i < length labels → i < length (addresses_of (map labelled labels))
label_size labels i h = omega (arith, h, length-map labels labelled, length-map (map labelled labels) (λ (l : Labelled). l.address))

pub label_row : (labels : List Label) (i : ℕ) (label : Label) → i < length labels → label ≡ get_or labels i label
    → label.address ≡ get_or (addresses_of (map labelled labels)) i 0
label_row labels i label h e =
    sym (get_or-map (λ (l : Labelled). l.address) (map labelled labels) i (labelled label) 0 (omega (arith, h, length-map labels labelled))
    ∙ (ap (λ (l : Labelled). l.address) (get_or-map labelled labels i label (labelled label) h)
    ∙ ap (λ (l : Label). l.address) (sym e)))

pub line_rows : (lines : List SourceLine) (i : ℕ) → length lines ≤ i → length (line_addresses (map listed lines)) ≤ i
line_rows lines i h = omega (arith, h, length-map lines listed, length-map (map listed lines) (λ (l : Listed). l.address))

pub line_size : (lines : List SourceLine) (i : ℕ) → i < length lines → i < length (line_addresses (map listed lines))
line_size lines i h = omega (arith, h, length-map lines listed, length-map (map listed lines) (λ (l : Listed). l.address))

pub line_row : (lines : List SourceLine) (i : ℕ) (line : SourceLine) → i < length lines → line ≡ get_or lines i line
    → line.address ≡ get_or (line_addresses (map listed lines)) i 0
line_row lines i line h e =
    sym (get_or-map (λ (l : Listed). l.address) (map listed lines) i (listed line) 0 (omega (arith, h, length-map lines listed))
    ∙ (ap (λ (l : Listed). l.address) (get_or-map listed lines i line (listed line) h)
    ∙ ap (λ (l : SourceLine). l.address) (sym e)))

-- ---- what the address below has

unfoldable pub before : List (Option ℕ) → (ℕ → Option ℕ) → ℕ → Option ℕ
before image place zero = None
before image place (suc address) = or_below image place address

first_place : (o : Option ℕ) (b : Bool) → o ≡ option_or o (if b then None else None)
first_place None true = refl
first_place None false = refl
first_place (Some x) b = refl

below_at : (image : List (Option ℕ)) (place : ℕ → Option ℕ) (address : ℕ)
    → or_below image place address ≡ option_or (place address) (if is_some (cell_at image address) then before image place address else None)
unfolding or_below before
below_at image place zero = first_place (place 0) (is_some (cell_at image 0))
below_at image place (suc address) = refl

below_more : (image : List (Option ℕ)) (place : ℕ → Option ℕ) (address : ℕ) → before image place (address + 1) ≡ or_below image place address
unfolding before
below_more image place address = ap (before image place) (add-one address)

-- Below an address a table has what it had or what the address below has. From there on it is as it was.
pub record Spread (image : List (Option ℕ)) (old table : List ℕ) (place label : ℕ) : Type 0 where
  pub size : length table ≡ 65536
  pub below : (address : ℕ) → address < place → index_at table address ≡ or_below image (index_at old) address
  pub above : (address : ℕ) → place ≤ address → slice_index table address ≡ slice_index old address
  pub last : index_of label ≡ before image (index_at old) place

pub spread_none : (image : List (Option ℕ)) (old : List ℕ) → length old ≡ 65536 → Spread image old old 0 0
unfolding before
spread_none image old h = record { size = h; below = λ address none. absurd (omega (arith, none)); above = λ address all. refl; last = refl }

pub spread_more : (image : List (Option ℕ)) (old table new : List ℕ) (place label below next : ℕ) → place < 65536
    → below ≡ (if is_some (cell_at image place) then label else 0) → new ≡ put_if_none table place below
    → next ≡ (if slice_index table place == 0 then below else slice_index table place)
    → Spread image old table place label → Spread image old new (place + 1) next
spread_more image old table new place label below next h b e n s =
    let there : slice_index table place ≡ slice_index old place = s.above place (omega arith) in
    let carried : index_of below ≡ (if is_some (cell_at image place) then before image (index_at old) place else None) =
    ap index_of b ∙ (index_if (is_some (cell_at image place)) label ∙ ap (λ o. if is_some (cell_at image place) then o else None) s.last) in
    let found : index_of next ≡ or_below image (index_at old) place =
    ap index_of n ∙ (index_or (slice_index table place) below ∙ (ap (λ k. option_or (index_of k) (index_of below)) there
    ∙ (ap (option_or (index_at old place)) carried ∙ sym (below_at image (index_at old) place)))) in
    let at : slice_index new place ≡ next = ap (λ ns. slice_index ns place) e ∙ (put_there table place below (omega (arith, h, s.size)) ∙ sym n) in
    record {
      size = ap length e ∙ (put_size table place below ∙ s.size);
      below = λ address lt. elim (cases_eq address place) [
        | inl same ↦ subst (λ a. index_at new a ≡ or_below image (index_at old) a) (sym same) (ap index_of at ∙ found)
        | inr apart ↦ ap (λ ns. index_at ns address) e ∙ (ap index_of (put_elsewhere table place below address apart)
            ∙ s.below address (omega (arith, lt, apart)))
      ];
      above = λ address le. ap (λ ns. slice_index ns address) e
          ∙ (put_elsewhere table place below address (λ same. omega (arith, same, le)) ∙ s.above address (omega (arith, le)));
      last = found ∙ sym (below_more image (index_at old) place);
    }

pub spread_all : (image : List (Option ℕ)) (old table : List ℕ) (place label : ℕ) → 65536 ≤ place → Spread image old table place label
    → IsTable table (or_below image (index_at old))
spread_all image old table place label h s = record { size = s.size; rows = λ address lt. s.below address (omega (arith, h, lt)) }

-- What an address has depends on what it and those below have.
pub below_same : (image : List (Option ℕ)) (place other : ℕ → Option ℕ) (most : ℕ) → ((address : ℕ) → address < most → place address ≡ other address)
    → (address : ℕ) → address < most → or_below image place address ≡ or_below image other address
unfolding or_below
below_same image place other most h zero lt = h 0 lt
below_same image place other most h (suc address) lt =
    ap (λ o. option_or o (if is_some (cell_at image (suc address)) then or_below image place address else None)) (h (suc address) lt)
    ∙ ap (λ o. option_or (other (suc address)) (if is_some (cell_at image (suc address)) then o else None))
    (below_same image place other most h address (omega (arith, lt)))

pub spread_table : (image : List (Option ℕ)) (old table : List ℕ) (place : ℕ → Option ℕ) → IsTable old place
    → IsTable table (or_below image (index_at old)) → IsTable table (or_below image place)
spread_table image old table place o t = record {
  size = t.size;
  rows = λ address lt. t.rows address lt ∙ below_same image (index_at old) place 65536 o.rows address lt;
}

-- A table of nothing.
pub zeros : (table : List ℕ) → table ≡ replicate 65536 0 → IsTable table (λ address. None)
zeros table e = record {
  size = ap length e ∙ length-replicate 65536 zero;
  rows = λ address lt. ap (λ ns. index_at ns address) e ∙ ap index_of (get_or-replicate 65536 address 0 0 lt);
}

-- ---- names, taken one after another

names_suc : (image : List (Option ℕ)) (place : ℕ → Option ℕ) (labels : Bool) (names : List Numbered) (i : ℕ)
    → names_of image place labels (take (suc i) names) ≡ names_of image place labels (take i names)
    ++ names_of image place labels (option_to_list (slice_get names i))
unfolding names_of
names_suc image place labels [] zero = refl
names_suc image place labels [] (suc i) = refl
names_suc image place labels (d ∷ ds) zero = refl
names_suc image place labels (d ∷ ds) (suc i) = ap (λ (ls : List Labelled). name_of image place labels d ++ ls) (names_suc image place labels ds i)
    ∙ sym (append_assoc (name_of image place labels d) (names_of image place labels (take i ds))
    (names_of image place labels (option_to_list (slice_get ds i))))

pub names_more : (image : List (Option ℕ)) (place : ℕ → Option ℕ) (labels : Bool) (names : List Numbered) (i : ℕ) (before old new : List Labelled)
    → old ≡ before ++ names_of image place labels (take i names)
    → new ≡ old ++ names_of image place labels (option_to_list (slice_get names i)) → new ≡ before ++ names_of image place labels (take (i + 1) names)
names_more image place labels names i before old new e n =
    n ∙ (ap (λ ls. ls ++ names_of image place labels (option_to_list (slice_get names i))) e
    ∙ (append_assoc before (names_of image place labels (take i names)) (names_of image place labels (option_to_list (slice_get names i)))
    ∙ ap (λ ls. before ++ ls) (sym (ap (λ k. names_of image place labels (take k names)) (add-one i) ∙ names_suc image place labels names i))))

pub names_none : (image : List (Option ℕ)) (place : ℕ → Option ℕ) (labels : Bool) (names : List Numbered) (before : List Labelled)
    → before ≡ before ++ names_of image place labels (take 0 names)
unfolding names_of
names_none image place labels names before = sym (append-nil before)

pub names_all : (image : List (Option ℕ)) (place : ℕ → Option ℕ) (labels : Bool) (names : List Numbered) (i : ℕ) (before new : List Labelled) → length names ≤ i
    → new ≡ before ++ names_of image place labels (take i names) → new ≡ before ++ names_of image place labels names
names_all image place labels names i before new h e = e ∙ ap (λ ns. before ++ names_of image place labels ns) (take_all i names h)

-- what stands in two lists at an index
pub zip_at : {X Y : Type 0} (xs : List X) (ys : List Y) (i : ℕ) (x : X) (y : Y) → slice_get xs i ≡ Some x → slice_get ys i ≡ Some y
    → slice_get (zip xs ys) i ≡ Some (x, y)
zip_at [] ys i x y e f = absurd cc
zip_at (a ∷ xs) [] i x y e f = absurd cc
zip_at (a ∷ xs) (b ∷ ys) zero x y e f = cc
zip_at (a ∷ xs) (b ∷ ys) (suc i) x y e f = zip_at xs ys i x y e f

pub zip_none : {X Y : Type 0} (xs : List X) (ys : List Y) (i : ℕ) → slice_get xs i ≡ None → slice_get (zip xs ys) i ≡ None
zip_none [] ys i e = refl
zip_none (a ∷ xs) [] i e = refl
zip_none (a ∷ xs) (b ∷ ys) zero e = absurd cc
zip_none (a ∷ xs) (b ∷ ys) (suc i) e = zip_none xs ys i e

pub zip_no_other : {X Y : Type 0} (xs : List X) (ys : List Y) (i : ℕ) → slice_get ys i ≡ None → slice_get (zip xs ys) i ≡ None
zip_no_other [] ys i e = refl
zip_no_other (a ∷ xs) [] i e = refl
zip_no_other (a ∷ xs) (b ∷ ys) zero e = absurd cc
zip_no_other (a ∷ xs) (b ∷ ys) (suc i) e = zip_no_other xs ys i e

-- Names stand for the same addresses by a table and by what it tells of each address.
free_same : (image : List (Option ℕ)) (table : List ℕ) (place : ℕ → Option ℕ) (text : List ℕ) (number : ℤ) → IsTable table place
    → name_if_free image (index_at table) text number ≡ name_if_free image place text number
free_same image table place text (pos n) t = by (nat_le n 65535) refl
  where
    by : (b : Bool) → nat_le n 65535 ≡ b → name_if_free image (index_at table) text (pos n) ≡ name_if_free image place text (pos n)
    by true e =
        let within : n ≤ 65535 = leb-true n 65535 e in
        ap (λ o. if nat_le n 65535 && is_some (cell_at image n) && is_none o then record { text = text; address = n } ∷ [] else [])
        (t.rows n (omega (arith, within)))
    by false e = rw e refl
free_same image table place text (negsuc n) t = refl

pub same_names : (image : List (Option ℕ)) (table : List ℕ) (place : ℕ → Option ℕ) (labels : Bool) (names : List Numbered) → IsTable table place
    → names_of image (index_at table) labels names ≡ names_of image place labels names
unfolding names_of
same_names image table place labels [] t = refl
same_names image table place labels (d ∷ ds) t =
    ap (λ ls. (if is_wanted labels d.1 then ls else []) ++ names_of image (index_at table) labels ds) (free_same image table place d.0.0 d.0.1 t)
    ∙ ap (λ ls. name_of image place labels d ++ ls) (same_names image table place labels ds t)

-- A name is put where an address belongs to no other, and what the address below has, is there.
pub spread_over : (image : List (Option ℕ)) (old table : List ℕ) (place first : ℕ → Option ℕ) → IsTable old place
    → IsTable table (or_below image (λ address. option_or (index_at old address) (first address)))
    → IsTable table (or_below image (λ address. option_or (place address) (first address)))
spread_over image old table place first o t = record {
  size = t.size;
  rows = λ address lt. t.rows address lt ∙ below_same image (λ a. option_or (index_at old a) (first a)) (λ a. option_or (place a) (first a)) 65536
      (λ a below. ap (λ p. option_or p (first a)) (o.rows a below)) address lt;
}

-- the name of an index
pub name_taken : (image : List (Option ℕ)) (place : ℕ → Option ℕ) (labels : Bool) (names : Definitions) (flags : List Bool) (i : ℕ) (text : List ℕ)
    (number : ℤ) (flag : Bool)
    → slice_get names i ≡ Some (text, number) → slice_get flags i ≡ Some flag → is_wanted labels flag ≡ true
    → names_of image place labels (option_to_list (slice_get (zip names flags) i)) ≡ name_if_free image place text number
unfolding names_of
name_taken image place labels names flags i text number flag e f wanted =
    ap (λ (o : Option Numbered). names_of image place labels (option_to_list o)) (zip_at names flags i (text, number) flag e f)
    ∙ (ap (λ (b : Bool). (if b then name_if_free image place text number else []) ++ []) wanted ∙ append-nil (name_if_free image place text number))

pub name_left : (image : List (Option ℕ)) (place : ℕ → Option ℕ) (labels : Bool) (names : Definitions) (flags : List Bool) (i : ℕ) (text : List ℕ)
    (number : ℤ) (flag : Bool)
    → slice_get names i ≡ Some (text, number) → slice_get flags i ≡ Some flag → is_wanted labels flag ≡ false
    → names_of image place labels (option_to_list (slice_get (zip names flags) i)) ≡ []
unfolding names_of
name_left image place labels names flags i text number flag e f other =
    ap (λ (o : Option Numbered). names_of image place labels (option_to_list o)) (zip_at names flags i (text, number) flag e f)
    ∙ ap (λ (b : Bool). (if b then name_if_free image place text number else []) ++ []) other

pub name_none : (image : List (Option ℕ)) (place : ℕ → Option ℕ) (labels : Bool) (o : Option Numbered) → o ≡ None
    → names_of image place labels (option_to_list o) ≡ []
unfolding names_of
name_none image place labels o e = ap (λ (n : Option Numbered). names_of image place labels (option_to_list n)) e

-- nothing is appended
pub none_more : (old more : List Labelled) → more ≡ [] → old ≡ old ++ more
none_more old more e = sym (ap (λ ls. old ++ ls) e ∙ append-nil old)

-- ---- the names of a source: first its labels, then the others

pub first_names : (a : AssemblyView) (table : List ℕ) (old new : List Labelled) → IsTable table (λ address. None) → old ≡ []
    → new ≡ old ++ names_of a.image (index_at table) true (named_numbers a) → new ≡ labels_in a
first_names a table old new t e n = n ∙ (ap (λ ls. ls ++ names_of a.image (index_at table) true (named_numbers a)) e
    ∙ same_names a.image table nowhere true (named_numbers a) t)

pub first_places : (a : AssemblyView) (table new : List ℕ) (labels : List Labelled) → IsTable table (λ address. None) → labels ≡ labels_in a
    → IsTable new (or_below a.image (λ address. option_or (index_at table address) (first_at (addresses_of labels) address))) → IsTable new (label_place a)
first_places a table new labels t e n = subst (λ ls. IsTable new (or_below a.image (first_at (addresses_of ls)))) e
    (spread_over a.image table new nowhere (first_at (addresses_of labels)) t n)

pub then_names : (a : AssemblyView) (table : List ℕ) (old new : List Labelled) → IsTable table (label_place a) → old ≡ labels_in a
    → new ≡ old ++ names_of a.image (index_at table) false (named_numbers a) → new ≡ names_in a
then_names a table old new t e n = n ∙ (ap (λ ls. ls ++ names_of a.image (index_at table) false (named_numbers a)) e
    ∙ ap (λ ls. labels_in a ++ ls) (same_names a.image table (label_place a) false (named_numbers a) t))

pub then_places : (a : AssemblyView) (table new : List ℕ) (names : List Labelled) → IsTable table (label_place a) → names ≡ names_in a
    → IsTable new (or_below a.image (λ address. option_or (index_at table address) (first_at (addresses_of names) address))) → IsTable new (label_for a)
then_places a table new names t e n = subst (λ ls. IsTable new
    (or_below a.image (λ address. option_or (label_place a address) (first_at (addresses_of ls) address)))) e
    (spread_over a.image table new (label_place a) (first_at (addresses_of names)) t n)

-- ---- lines, taken one after another

pub lines_none : lines_of [] ≡ []
unfolding lines_of
lines_none = refl

lines_suc : (lines : List LineView) (i : ℕ) → lines_of (take (suc i) lines) ≡ lines_of (take i lines) ++ lines_of (option_to_list (slice_get lines i))
unfolding lines_of
lines_suc [] zero = refl
lines_suc [] (suc i) = refl
lines_suc (l ∷ ls) zero = refl
lines_suc (l ∷ ls) (suc i) = ap (λ (more : List Listed). line_of l ++ more) (lines_suc ls i)
    ∙ sym (append_assoc (line_of l) (lines_of (take i ls)) (lines_of (option_to_list (slice_get ls i))))

pub lines_more : (lines : List LineView) (i : ℕ) (old new : List Listed) → old ≡ lines_of (take i lines)
    → new ≡ old ++ lines_of (option_to_list (slice_get lines i)) → new ≡ lines_of (take (i + 1) lines)
lines_more lines i old new e n =
    n ∙ (ap (λ ls. ls ++ lines_of (option_to_list (slice_get lines i))) e ∙ sym (ap (λ k. lines_of (take k lines)) (add-one i) ∙ lines_suc lines i))

-- The names of an assembly that is there.
pub labels_are : (assembly : Option AssemblyView) (a : AssemblyView) (labels : List Labelled) (table : List ℕ) → assembly ≡ Some a
    → labels ≡ names_in a → IsTable table (label_for a) → AreLabels assembly labels table
labels_are assembly a labels table is named places = subst (λ (x : Option AssemblyView). AreLabels x labels table) (sym is) (named, places)
