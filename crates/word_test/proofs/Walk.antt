-- The way over the rows of a suite.
use Rattle.std.proofs.Common.{◌≡◌, ◌∙◌, ℕ, ◌+◌, ◌<◌, ◌≤◌, List, [], ◌++◌, Option, length, drop, get_or, refl, sym, ap, subst, append-nil, append_assoc}
use Rattle.std.specs.Prelude.{Bool, Some, None}
use Rattle.std.specs.Option.{option_map}
use Rattle.std.specs.Io.KnownBytes.{Appends}
use Rattle.model.specs.Writers.{AppendsFront}
use Rattle.model.proofs.Written.{front_after, front_more}
use Rattle.std.proofs.KnownBytes.{Appends-nil, Appends-trans}
use Rattle.std.proofs.lemmas.List.{drop_all, drop_more}
use Rattle.std.specs.Borrow.{Bor}
use Rattle.t65_reader.specs.RowText.{line_number, line_points, line_seen}
use Rattle.t65_reader.specs.declared.row.Line.{Line}
use Rattle.t65_runner.specs.Parts.{lines_seen}
use Rattle.t65_reports.specs.Lines.{line_at, lines_after, next_after}
use Rattle.t65_reports.specs.Junit.{ReportTold, with_test}
use Rattle.t65_reports.specs.declared.telling.Telling.{Telling}
use Rattle.word_test.specs.Tested.{passes, plus, rows_reported, rows_text, tally_after, tally_rows, told_case, told_junit, why}
use Rattle.t65_suites.specs.Prepared.{Ground}
use Rattle.t65_suites.specs.Suites.{SuiteAsked, name_of}
use Rattle.word_test.specs.declared.tally.Tally.{Tally}

mapped : (f g h : ReportTold → ReportTold) (x : Option ReportTold) → ((r : ReportTold) → f (g r) ≡ h r) → option_map f (option_map g x) ≡ option_map h x
mapped f g h None e = refl
mapped f g h (Some r) e = ap (λ (s : ReportTold). Some s) (e r)

unmapped : (f : ReportTold → ReportTold) (x : Option ReportTold) → ((r : ReportTold) → f r ≡ r) → option_map f x ≡ x
unmapped f None e = refl
unmapped f (Some r) e = ap (λ (s : ReportTold). Some s) (e r)

-- A stream got the beginning of a text, and this is left of it.
pub record TextLeft (old new : Option (List ℕ)) (left whole : List ℕ) : Type 0 where
  pub text : List ℕ
  pub written : Appends old new text
  pub left_is : text ++ left ≡ whole

pub all_left : (old : Option (List ℕ)) (left whole : List ℕ) → left ≡ whole → TextLeft old old left whole
all_left old left whole is = record { text = []; written = Appends-nil old; left_is = is }

pub less_left : (old now new : Option (List ℕ)) (left rest whole text : List ℕ) → TextLeft old now left whole → Appends now new text
    → left ≡ text ++ rest → TextLeft old new rest whole
less_left old now new left rest whole text t w is = record {
  text = t.text ++ text;
  written = Appends-trans old now new t.text text t.written w;
  left_is = append_assoc t.text text rest ∙ (ap (λ (x : List ℕ). t.text ++ x) (sym is) ∙ t.left_is);
}

pub none_left : (old new : Option (List ℕ)) (left whole : List ℕ) → TextLeft old new left whole → left ≡ [] → Appends old new whole
none_left old new left whole t none =
    subst (Appends old new) (sym (append-nil t.text) ∙ (ap (λ (x : List ℕ). t.text ++ x) (sym none) ∙ t.left_is)) t.written

-- No more of it is written.
pub left_begun : (old new : Option (List ℕ)) (left whole : List ℕ) → TextLeft old new left whole → AppendsFront old new whole
left_begun old new left whole t = (t.text, left, sym t.left_is, t.written)

-- A beginning of the next part of it is written.
more_begun : (old now new : Option (List ℕ)) (left rest whole text : List ℕ) → TextLeft old now left whole → AppendsFront now new text
    → left ≡ text ++ rest → AppendsFront old new whole
more_begun old now new left rest whole text t front is =
    subst (AppendsFront old new) t.left_is (front_after old now new t.text left t.written
    (subst (AppendsFront now new) (sym is) (front_more now new text rest front)))

module _ (telling : Telling) (bench : Ground) (suite : SuiteAsked) (tests : List (Bor Line)) (i : ℕ) where
  abbrev left : ℕ → ℕ → ℕ → List (List ℕ) → List ℕ
  left j count next lines = rows_text telling bench suite count next lines (lines_seen (drop j tests))

  text-more : (count next : ℕ) (lines : List (List ℕ)) (test other : Bor Line) → i < length tests → test ≡ get_or tests i other → left i count next lines
      ≡ told_case telling (plus count 1) (name_of suite) (line_number (line_seen test)) (line_points (line_seen test))
      (line_at (line_number (line_seen test)) next lines) (why bench suite.rows (line_at (line_number (line_seen test)) next lines) (line_seen test))
      ++ left (i + 1) (plus count 1) (next_after (line_number (line_seen test)) next lines) (lines_after (line_number (line_seen test)) next lines)
  unfolding rows_text
  text-more count next lines test other h is = rw (drop_more tests i other h, is) refl

  -- The next test was told of.
  pub test_told : (old now new : Option (List ℕ)) (count count_then number at next next_then : ℕ) (lines lines_then : List (List ℕ))
      (test other : Bor Line) (file line tap whole : List ℕ)
      → i < length tests → test ≡ get_or tests i other → TextLeft old now (left i count next lines) whole → Appends now new tap
      → tap ≡ told_case telling number file at (line_points (line_seen test)) line (why bench suite.rows line (line_seen test)) → file ≡ name_of suite
      → at ≡ line_number (line_seen test)
      → number ≡ plus count 1 → line ≡ line_at at next lines
      → lines_then ≡ lines_after at next lines → next_then ≡ next_after at next lines
      → count_then ≡ plus count 1
      → TextLeft old new (left (i + 1) count_then next_then lines_then) whole
  test_told old now new count count_then number at next next_then lines lines_then test other file line tap whole h is so_far written tap_is file_is
      at_is number_is line_is lines_are next_is count_is =
      less_left old now new (left i count next lines) (left (i + 1) count_then next_then lines_then) whole tap so_far written
      (rw (tap_is, file_is, number_is, line_is, lines_are, next_is, count_is, at_is) (text-more count next lines test other h is))

  -- A beginning of what is told of the next test was written.
  pub test_begun : (old now new : Option (List ℕ)) (count number at next : ℕ) (lines : List (List ℕ)) (test other : Bor Line) (file line tap whole : List ℕ)
      → i < length tests → test ≡ get_or tests i other → TextLeft old now (left i count next lines) whole → AppendsFront now new tap
      → tap ≡ told_case telling number file at (line_points (line_seen test)) line (why bench suite.rows line (line_seen test)) → file ≡ name_of suite
      → at ≡ line_number (line_seen test)
      → number ≡ plus count 1 → line ≡ line_at at next lines
      → AppendsFront old new whole
  test_begun old now new count number at next lines test other file line tap whole h is so_far front tap_is file_is at_is number_is line_is =
      more_begun old now new (left i count next lines)
      (left (i + 1) (plus count 1) (next_after (line_number (line_seen test)) next lines) (lines_after (line_number (line_seen test)) next lines))
      whole tap so_far front
      (rw (tap_is, file_is, number_is, line_is, at_is) (text-more count next lines test other h is))

  pub no_test_left : (count next : ℕ) (lines : List (List ℕ)) → length tests ≤ i → left i count next lines ≡ []
  unfolding rows_text
  no_test_left count next lines h = rw (drop_all i tests h) refl

  abbrev reported_left : ℕ → ℕ → List (List ℕ) → ReportTold → ReportTold
  reported_left j next lines report = rows_reported bench suite next lines (lines_seen (drop j tests)) report

  reported-more : (next : ℕ) (lines : List (List ℕ)) (test other : Bor Line) (report : ReportTold) → i < length tests → test ≡ get_or tests i other
      → reported_left i next lines report
      ≡ reported_left (i + 1) (next_after (line_number (line_seen test)) next lines) (lines_after (line_number (line_seen test)) next lines)
      (with_test (passes bench (line_seen test)) (told_junit (name_of suite) suite.rows (line_number (line_seen test)) (line_points (line_seen test))
      (line_at (line_number (line_seen test)) next lines)
      (why bench suite.rows (line_at (line_number (line_seen test)) next lines) (line_seen test))) report)
  unfolding rows_reported
  reported-more next lines test other report h is = rw (drop_more tests i other h, is) refl

  -- The next test was reported.
  pub one_reported : (now new whole : Option ReportTold) (at next next_then : ℕ) (lines lines_then : List (List ℕ)) (passing : Bool)
      (test other : Bor Line) (file line junit : List ℕ)
      → i < length tests → test ≡ get_or tests i other → new ≡ option_map (with_test passing junit) now
      → passing ≡ passes bench (line_seen test)
      → junit ≡ told_junit file suite.rows at (line_points (line_seen test)) line (why bench suite.rows line (line_seen test)) → file ≡ name_of suite
      → at ≡ line_number (line_seen test)
      → line ≡ line_at at next lines
      → lines_then ≡ lines_after at next lines → next_then ≡ next_after at next lines
      → option_map (reported_left i next lines) now ≡ whole → option_map (reported_left (i + 1) next_then lines_then) new ≡ whole
  one_reported now new whole at next next_then lines lines_then passing test other file line junit h is new_is passing_is junit_is file_is at_is
      line_is lines_are next_is so_far =
      ap (option_map (reported_left (i + 1) next_then lines_then)) new_is
      ∙ (mapped (reported_left (i + 1) next_then lines_then) (with_test passing junit) (reported_left i next lines) now
      (λ report. sym (rw (passing_is, junit_is, file_is, line_is, lines_are, next_is, at_is) (reported-more next lines test other report h is)))
      ∙ so_far)

  -- All tests were reported.
  pub all_reported : (now whole : Option ReportTold) (next : ℕ) (lines : List (List ℕ)) → length tests ≤ i
      → option_map (reported_left i next lines) now ≡ whole → now ≡ whole
  unfolding rows_reported
  all_reported now whole next lines h so_far = sym (unmapped (reported_left i next lines) now (λ report. rw (drop_all i tests h) refl)) ∙ so_far

  abbrev tally_left : ℕ → Tally → Tally
  tally_left j tally = tally_rows bench tally (lines_seen (drop j tests))

  tally-more : (tally : Tally) (test other : Bor Line) → i < length tests → test ≡ get_or tests i other
      → tally_left i tally ≡ tally_left (i + 1) (tally_after (passes bench (line_seen test)) (line_points (line_seen test)) tally)
  unfolding tally_rows
  tally-more tally test other h is = rw (drop_more tests i other h, is) refl

  -- The next test was counted.
  pub one_counted : (tally then whole : Tally) (passing : Bool) (points : ℕ) (test other : Bor Line) → i < length tests → test ≡ get_or tests i other
      → passing ≡ passes bench (line_seen test) → points ≡ line_points (line_seen test) → then ≡ tally_after passing points tally
      → tally_left i tally ≡ whole → tally_left (i + 1) then ≡ whole
  one_counted tally then whole passing points test other h is passing_is points_are then_is left_is =
      rw (then_is, passing_is, points_are) (sym (tally-more tally test other h is) ∙ left_is)

  -- All tests were counted.
  pub all_counted : (tally whole : Tally) → length tests ≤ i → tally_left i tally ≡ whole → tally ≡ whole
  unfolding tally_rows
  all_counted tally whole h left_is =
      ap (λ (r : List (Bor Line)). tally_rows bench tally (lines_seen r)) (sym (drop_all i tests h)) ∙ left_is
