-- The way over items, over calls, and over the values of ranges.
use Rattle.std.proofs.Common.{◌≡◌, ◌∙◌, ℕ, zero, suc, ◌+◌, ◌<◌, ◌≤◌, true, false, List, [], ◌∷◌, ◌++◌, length, take, drop, get_or, refl, sym, ap, subst, append-nil, append_assoc, arith, Option, Some, None}
use Rattle.std.specs.Borrow.{Bor}
use Rattle.std.specs.Prelude.{is_some}
use Rattle.std.proofs.lemmas.List.{drop_all, drop_more, get_or-map, length-map, map_more, take_all}
use Rattle.model.specs.Session.{Session}
use Rattle.t65_reader.specs.declared.row.Item.{Item}
use Rattle.t65_reader.specs.RowText.{SeenRow, row_seen}
use Rattle.t65_reader.specs.declared.row.Choice.{Choice}
use Rattle.t65_reader.specs.declared.row.Ranges.{Ranges}
use Rattle.t65_reader.specs.declared.row.Row.{Row}
use Rattle.t65_runner.specs.Passes.{all_passed, first_from, given_all, given_one, if_given, passed, rows_run, rows_seen, run_after}
use Rattle.t65_runner.specs.RangeValues.{four_later, number_before, seed_of, values_at, values_by}
use Rattle.t65_runner.specs.declared.range_values.Values.{Values}

pub given_more : (values : Values) (items : List Item) (i : ℕ) (s : Session) (item : Item) → i < length items
    → given_all values (drop i items) s ≡ if_given (given_one values (get_or items i item) s) (given_all values (drop (i + 1) items))
unfolding given_all
given_more values items i s item h = rw (drop_more items i item h) refl

pub given_end : (values : Values) (items : List Item) (i : ℕ) (s : Session) → length items ≤ i → given_all values (drop i items) s ≡ Some s
unfolding given_all
given_end values items i s h = rw (drop_all i items h) refl

pub first_none : (n m k : ℕ) (test : ℕ → Option Values) → n ≡ m + 1 → test k ≡ None → first_from m (k + 1) test ≡ first_from n k test
unfolding first_from
first_none zero m k test e h = absurd (omega arith)
first_none (suc n) m k test e h =
    let same : n ≡ m = omega arith in
    rw (h, same) refl

pub first_some : (n m k : ℕ) (test : ℕ → Option Values) (values : Values) → n ≡ m + 1 → test k ≡ Some values → first_from n k test ≡ Some values
unfolding first_from
first_some zero m k test values e h = absurd (omega arith)
first_some (suc n) m k test values e h = rw h refl

pub first_over : (n k : ℕ) (test : ℕ → Option Values) → n ≡ 0 → first_from n k test ≡ None
unfolding first_from
first_over zero k test e = refl
first_over (suc n) k test e = absurd (omega arith)

-- ---- rows

pub seen_next : (rows : List (Bor (ℕ × Row))) (i : ℕ) (row : Bor (ℕ × Row)) → i < length rows → row ≡ get_or rows i row
    → drop i (rows_seen rows) ≡ row_seen row ∷ drop (i + 1) (rows_seen rows)
seen_next rows i row h is =
    drop_more (rows_seen rows) i (row_seen row) (subst (λ n. i < n) (sym (length-map rows row_seen)) h)
    ∙ ap (λ (r : ℕ × SeenRow). r ∷ drop (i + 1) (rows_seen rows)) (get_or-map row_seen rows i row (row_seen row) h ∙ ap row_seen (sym is))

pub seen_end : (rows : List (Bor (ℕ × Row))) (i : ℕ) → length rows ≤ i → drop i (rows_seen rows) ≡ []
seen_end rows i h = drop_all i (rows_seen rows) (subst (λ n. n ≤ i) (sym (length-map rows row_seen)) h)

module _ (values : Values) (rows : List (Bor (ℕ × Row))) (i : ℕ) (s : Session) where
  passed-next : (row : Bor (ℕ × Row)) → i < length rows → row ≡ get_or rows i row
      → all_passed values (drop i (rows_seen rows)) s ≡ if_given (passed values (row_seen row).1.call s) (all_passed values (drop (i + 1) (rows_seen rows)))
  unfolding all_passed
  passed-next row h is = rw (seen_next rows i row h is) refl

  -- The next call fails.
  pub one_fails : (row : Bor (ℕ × Row)) (whole : Option Session) → i < length rows → row ≡ get_or rows i row → passed values (row_seen row).1.call s ≡ None
      → all_passed values (drop i (rows_seen rows)) s ≡ whole → false ≡ is_some whole
  one_fails row whole h is fails left =
      sym (ap (λ (p : Option Session). is_some p) (sym left ∙
      (passed-next row h is ∙ ap (λ (p : Option Session). if_given p (all_passed values (drop (i + 1) (rows_seen rows)))) fails)))

  -- The next call passes.
  pub one_passes : (row : Bor (ℕ × Row)) (next : Session) (whole : Option Session) → i < length rows → row ≡ get_or rows i row
      → passed values (row_seen row).1.call s ≡ Some next
      → all_passed values (drop i (rows_seen rows)) s ≡ whole → all_passed values (drop (i + 1) (rows_seen rows)) next ≡ whole
  one_passes row next whole h is passes left =
      sym (passed-next row h is ∙ ap (λ (p : Option Session). if_given p (all_passed values (drop (i + 1) (rows_seen rows)))) passes) ∙ left

  passed-end : length rows ≤ i → all_passed values (drop i (rows_seen rows)) s ≡ Some s
  unfolding all_passed
  passed-end h = rw (seen_end rows i h) refl

  -- All calls pass.
  pub all_pass : (whole : Option Session) → length rows ≤ i → all_passed values (drop i (rows_seen rows)) s ≡ whole → true ≡ is_some whole
  all_pass whole h left = sym (ap (λ (p : Option Session). is_some p) (sym left ∙ passed-end h))

module _ (values : Values) (rows : List (Bor (ℕ × Row))) (i : ℕ) (s : Session) where
  abbrev rest_run : Session → List (ℕ × SeenRow)
  rest_run next = rows_run values (drop (i + 1) (rows_seen rows)) next

  run-next : (row : Bor (ℕ × Row)) → i < length rows → row ≡ get_or rows i row
      → rows_run values (drop i (rows_seen rows)) s ≡ row_seen row ∷ run_after (passed values (row_seen row).1.call s) rest_run
  unfolding rows_run
  run-next row h is = rw (seen_next rows i row h is) refl

  one_more : (row : Bor (ℕ × Row)) → i < length rows → row ≡ get_or rows i row → rows_seen (take (i + 1) rows) ≡ rows_seen (take i rows) ++ row_seen row ∷ []
  one_more row h is = map_more row_seen rows i row h ∙ ap (λ (r : Bor (ℕ × Row)). rows_seen (take i rows) ++ row_seen r ∷ []) (sym is)

  -- The next call fails.
  pub run_ends : (row : Bor (ℕ × Row)) (whole : List (ℕ × SeenRow)) → i < length rows → row ≡ get_or rows i row → passed values (row_seen row).1.call s ≡ None
      → rows_seen (take i rows) ++ rows_run values (drop i (rows_seen rows)) s ≡ whole → rows_seen (take (i + 1) rows) ≡ whole
  run_ends row whole h is fails left =
      one_more row h is
      ∙ (ap (λ (t : List (ℕ × SeenRow)). rows_seen (take i rows) ++ t)
      (sym (run-next row h is ∙ ap (λ (p : Option Session). row_seen row ∷ run_after p rest_run) fails)) ∙ left)

  -- The next call passes.
  pub run_goes_on : (row : Bor (ℕ × Row)) (next : Session) (whole : List (ℕ × SeenRow)) → i < length rows → row ≡ get_or rows i row
      → passed values (row_seen row).1.call s ≡ Some next
      → rows_seen (take i rows) ++ rows_run values (drop i (rows_seen rows)) s ≡ whole → rows_seen (take (i + 1) rows) ++ rest_run next ≡ whole
  run_goes_on row next whole h is passes left =
      ap (λ (t : List (ℕ × SeenRow)). t ++ rest_run next) (one_more row h is)
      ∙ (append_assoc (rows_seen (take i rows)) (row_seen row ∷ []) (rest_run next)
      ∙ (ap (λ (t : List (ℕ × SeenRow)). rows_seen (take i rows) ++ t)
      (sym (run-next row h is ∙ ap (λ (p : Option Session). row_seen row ∷ run_after p rest_run) passes)) ∙ left))

  run-end : length rows ≤ i → rows_run values (drop i (rows_seen rows)) s ≡ []
  unfolding rows_run
  run-end h = rw (seen_end rows i h) refl

  -- All calls pass.
  pub run_whole : (whole : List (ℕ × SeenRow)) → length rows ≤ i → rows_seen (take i rows) ++ rows_run values (drop i (rows_seen rows)) s ≡ whole
      → rows_seen rows ≡ whole
  run_whole whole h left =
      ap (λ (r : List (Bor (ℕ × Row))). rows_seen r) (sym (take_all i rows h))
      ∙ (sym (append-nil (rows_seen (take i rows))) ∙ (ap (λ (t : List (ℕ × SeenRow)). rows_seen (take i rows) ++ t) (sym (run-end h)) ∙ left))

-- ---- values

pub seeded : (choice : Choice) (x : ℕ) → x ≡ seed_of choice → x ≡ number_before (seed_of choice) 0
unfolding number_before
seeded choice x is = is

number_next : (seed n : ℕ) → number_before seed (suc n) ≡ four_later (number_before seed n)
unfolding number_before
number_next seed n = refl

pub later : (seed n x y : ℕ) → x ≡ number_before seed n → y ≡ four_later x → y ≡ number_before seed (n + 1)
later seed n x y is next =
    let same : suc n ≡ n + 1 = omega arith in
    next ∙ (ap (λ (z : ℕ). four_later z) is ∙ (sym (number_next seed n) ∙ ap (number_before seed) same))

pub values_here : (ranges : Ranges) (choice : Choice) (n number : ℕ) (values : Values) → values ≡ values_by ranges choice n number
    → number ≡ number_before (seed_of choice) n
    → values ≡ values_at ranges choice n
values_here ranges choice n number values is number_is = is ∙ ap (λ (x : ℕ). values_by ranges choice n x) number_is
