-- The way over the lines of a file: the rows of a part, and the tests.
use Rattle.std.proofs.Common.{◌≡◌, ◌∙◌, ℕ, ◌+◌, ◌<◌, ◌≤◌, true, false, List, [], ◌∷◌, ◌++◌, Option, Some, None, length, drop, get_or, map, refl, sym, ap, subst, append-nil, append_assoc}
use Rattle.std.proofs.lemmas.List.{drop_all, drop_more, get_or-map, length-map, map-append}
use Rattle.std.specs.Borrow.{Bor}
use Rattle.t65_reader.specs.RowText.{SeenLine, SeenRow, line_seen, line_view, row_seen}
use Rattle.t65_reader.specs.declared.row.Line.{Line}
use Rattle.t65_reader.specs.declared.row.Part.{Part}
use Rattle.t65_reader.specs.declared.row.Row.{Row}
use Rattle.t65_runner.specs.Parts.{is_test, lines_seen, one_or_none, row_in, rows_of, tests_of}
use Rattle.t65_runner.specs.Passes.{rows_seen}

module _ (lines : List Line) (i : ℕ) where
  abbrev seen : List SeenLine
  seen = map line_view lines

  line_next : (line : Line) → i < length lines → line ≡ get_or lines i line → drop i seen ≡ line_view line ∷ drop (i + 1) seen
  line_next line h is =
      drop_more seen i (line_view line) (subst (λ n. i < n) (sym (length-map lines line_view)) h)
      ∙ ap (λ (l : SeenLine). l ∷ drop (i + 1) seen) (get_or-map line_view lines i line (line_view line) h ∙ ap line_view (sym is))

  no_line : length lines ≤ i → drop i seen ≡ []
  no_line h = drop_all i seen (subst (λ n. n ≤ i) (sym (length-map lines line_view)) h)

  -- ---- the rows of a part

  rows_next : (part : Part) (line : Line) → i < length lines → line ≡ get_or lines i line
      → rows_of part (drop i seen) ≡ one_or_none (row_in part (line_view line)) ++ rows_of part (drop (i + 1) seen)
  rows_next part line h is = ap (rows_of part) (line_next line h is)

  -- The next line is no row of the part.
  pub row_left_out : (part : Part) (line : Line) (found whole : List (ℕ × SeenRow)) → i < length lines → line ≡ get_or lines i line
      → row_in part (line_view line) ≡ None
      → found ++ rows_of part (drop i seen) ≡ whole → found ++ rows_of part (drop (i + 1) seen) ≡ whole
  row_left_out part line found whole h is other left =
      ap (λ (r : List (ℕ × SeenRow)). found ++ r) (sym (rows_next part line h is
      ∙ ap (λ (r : Option (ℕ × SeenRow)). one_or_none r ++ rows_of part (drop (i + 1) seen)) other)) ∙ left

  -- The next line is a row of the part, which was found.
  pub row_pushed : (part : Part) (line : Line) (row : Bor (ℕ × Row)) (found now : List (Bor (ℕ × Row))) (whole : List (ℕ × SeenRow))
      → i < length lines → line ≡ get_or lines i line
      → row_in part (line_view line) ≡ Some (row_seen row) → now ≡ found ++ row ∷ []
      → rows_seen found ++ rows_of part (drop i seen) ≡ whole → rows_seen now ++ rows_of part (drop (i + 1) seen) ≡ whole
  row_pushed part line row found now whole h is same grown left =
      ap (λ (r : List (ℕ × SeenRow)). r ++ rows_of part (drop (i + 1) seen))
      (ap (λ (r : List (Bor (ℕ × Row))). rows_seen r) grown ∙ map-append row_seen found (row ∷ []))
      ∙ (append_assoc (rows_seen found) (row_seen row ∷ []) (rows_of part (drop (i + 1) seen))
      ∙ (ap (λ (r : List (ℕ × SeenRow)). rows_seen found ++ r)
      (sym (rows_next part line h is ∙ ap (λ (r : Option (ℕ × SeenRow)). one_or_none r ++ rows_of part (drop (i + 1) seen)) same)) ∙ left))

  pub no_row_left : (part : Part) (found whole : List (ℕ × SeenRow)) → length lines ≤ i → found ++ rows_of part (drop i seen) ≡ whole → found ≡ whole
  no_row_left part found whole h left =
      sym (append-nil found) ∙ (ap (λ (r : List (ℕ × SeenRow)). found ++ r) (sym (ap (rows_of part) (no_line h))) ∙ left)

  -- ---- the tests

  test_in : (line : SeenLine) (rest : List SeenLine) → is_test line ≡ true → tests_of (line ∷ rest) ≡ line ∷ tests_of rest
  test_in line rest h = rw h refl

  test_out : (line : SeenLine) (rest : List SeenLine) → is_test line ≡ false → tests_of (line ∷ rest) ≡ tests_of rest
  test_out line rest h = rw h refl

  -- The next line is no test.
  pub test_left_out : (line : Line) (found whole : List SeenLine) → i < length lines → line ≡ get_or lines i line → is_test (line_view line) ≡ false
      → found ++ tests_of (drop i seen) ≡ whole → found ++ tests_of (drop (i + 1) seen) ≡ whole
  test_left_out line found whole h is other left =
      ap (λ (r : List SeenLine). found ++ r) (sym (ap tests_of (line_next line h is) ∙ test_out (line_view line) (drop (i + 1) seen) other)) ∙ left

  -- The next line is a test, which was found.
  pub test_pushed : (line : Bor Line) (found now : List (Bor Line)) (whole : List SeenLine) → i < length lines → line.now ≡ get_or lines i line.now
      → is_test (line_view line.now) ≡ true → now ≡ found ++ line ∷ []
      → lines_seen found ++ tests_of (drop i seen) ≡ whole → lines_seen now ++ tests_of (drop (i + 1) seen) ≡ whole
  test_pushed line found now whole h is same grown left =
      ap (λ (r : List SeenLine). r ++ tests_of (drop (i + 1) seen)) (ap (λ (r : List (Bor Line)). lines_seen r) grown ∙ map-append line_seen found (line ∷ []))
      ∙ (append_assoc (lines_seen found) (line_seen line ∷ []) (tests_of (drop (i + 1) seen))
      ∙ (ap (λ (r : List SeenLine). lines_seen found ++ r) (sym
      (ap tests_of (line_next line.now h is) ∙ test_in (line_view line.now) (drop (i + 1) seen) same)) ∙ left))

  pub no_test_left : (found whole : List SeenLine) → length lines ≤ i → found ++ tests_of (drop i seen) ≡ whole → found ≡ whole
  no_test_left found whole h left =
      sym (append-nil found) ∙ (ap (λ (r : List SeenLine). found ++ r) (sym (ap tests_of (no_line h))) ∙ left)
