-- What suites come to.
use Rattle.std.proofs.Common.{◌≡◌, ℕ, ◌+◌, ◌<◌, ◌≤◌, Bool, true, false, List, [], ◌∷◌, ◌++◌, Option, length, take, drop, get_or, map, refl, sym, ap, ◌∙◌, subst, append-nil, append_assoc, inl, inr}
use Rattle.std.specs.Prelude.{◌&&◌, ◌⊎◌, IfErr, IfOk, IsErr, MatchResult, Result, Ok, Err}
use Rattle.std.specs.Io.KnownBytes.{Appends}
use Rattle.std.proofs.KnownBytes.{Appends-nil, Appends-trans}
use Rattle.std.proofs.lemmas.List.{map-append, map_more, take-append-drop, take_all}
use Rattle.std.proofs.lemmas.Result.{MatchResult-from_err}
use Rattle.model.specs.TextLines.{lines_of}
use Rattle.model.specs.Writers.{AppendsFront}
use Rattle.model.proofs.Written.{front_after, front_more, front_none}
use Rattle.t65_reader.specs.RowText.{SeenLine, line_view}
use Rattle.t65_reports.specs.Telling.{begin_text, end_text, fault_text}
use Rattle.t65_reports.specs.declared.telling.Telling.{Telling}
use Rattle.word_test.specs.Asked.{TestAsked}
use Rattle.t65_suites.specs.Ends.{EndsFile}
use Rattle.t65_suites.specs.FaultTexts.{shown_text}
use Rattle.t65_suites.specs.Suites.{SuiteAsked, name_of, suite_view, suites_of}
use Rattle.word_test.specs.Tested.{fresh_tally, rows_text, sum_text, tally_after, tally_rows}
use Rattle.t65_runner.specs.Parts.{tests_of}
use Rattle.t65_suites.specs.Prepared.{Ground, IsPrepared, ground_in, ground_of, tests_in}
use Rattle.word_test.specs.Told.{AreBegun, AreOutcomes, AreRun, AreTested, HasBegun, IsBegun, IsFaultText, IsOutcome, IsRun, Outcome, manner_of, outcome_by, whole_text}
use Rattle.t65_suites.specs.declared.fault.FileFault.{FileFault}
use Rattle.t65_suites.specs.declared.fault.FileFault.TheVariants.{InRows}
use Rattle.t65_suites.specs.declared.fault.TestFault.TheVariants.{TooLarge}
use Rattle.t65_suites.specs.declared.wording.TheConstants.{TOO_LARGE}
use Rattle.word_test.specs.declared.files.Manner.{Manner}
use Rattle.t65_suites.specs.declared.prepared.Prepared.{Prepared}
use Rattle.word_test.specs.declared.stop.Stop.{Stop}
use Rattle.t65_suites.specs.declared.suites.Suite.{Suite}
use Rattle.word_test.specs.declared.tally.Tally.{Tally}

-- ---- outcomes, one after another

and_true : (b : Bool) → (b && true) ≡ b
and_true true = refl
and_true false = refl

and_assoc : (a b c : Bool) → ((a && b) && c) ≡ (a && (b && c))
and_assoc true b c = refl
and_assoc false b c = refl

abbrev outcome_at : List ℕ → ℕ → Bool → Outcome
outcome_at text count passes = record { text = text; count = count; passes = passes }

abbrev pub joined : Outcome → Outcome → Outcome
joined first rest = outcome_at (first.text ++ rest.text) rest.count (first.passes && rest.passes)

abbrev nothing : ℕ → Outcome
nothing count = outcome_at [] count true

after_nothing : (outcome : Outcome) → outcome ≡ joined outcome (nothing outcome.count)
after_nothing outcome = ap (λ (t : List ℕ). outcome_at t outcome.count outcome.passes) (sym (append-nil outcome.text))
    ∙ ap (λ (b : Bool). outcome_at (outcome.text ++ []) outcome.count b) (sym (and_true outcome.passes))

joined_assoc : (a b c : Outcome) → joined (joined a b) c ≡ joined a (joined b c)
joined_assoc a b c = ap (λ (t : List ℕ). outcome_at t c.count ((a.passes && b.passes) && c.passes)) (append_assoc a.text b.text c.text)
    ∙ ap (λ (p : Bool). outcome_at (a.text ++ (b.text ++ c.text)) c.count p) (and_assoc a.passes b.passes c.passes)

-- One more suite.
pub one_more : (manner : Manner) (count : ℕ) (suites : List SuiteAsked) (suite : SuiteAsked) (all next : Outcome)
    → AreOutcomes manner count suites all → IsOutcome manner suite all.count next → AreOutcomes manner count (suites ++ suite ∷ []) (joined all next)
one_more manner count [] suite all next are is = (
  next,
  nothing next.count,
  subst (λ (a : Outcome). IsOutcome manner suite a.count next) are is,
  refl,
  ap (λ (a : Outcome). joined a next) are ∙ after_nothing next,
)
one_more manner count (first ∷ suites) suite all next are is =
    let there = subst (λ (a : Outcome). IsOutcome manner suite a.count next) are.4 is in (
      are.0,
      joined are.1 next,
      are.2,
      one_more manner are.0.count suites suite are.1 next are.3 there,
      ap (λ (a : Outcome). joined a next) are.4 ∙ joined_assoc are.0 are.1 next,
    )

pub none_run : (manner : Manner) (old : Option (List ℕ)) → AreRun manner [] old old 0 true
none_run manner old = record { all = nothing 0; are = refl; count_is = refl; passes_is = refl; written = Appends-nil old }

-- One suite more was run.
pub one_run : (manner : Manner) (suites : List Suite) (i : ℕ) (d suite : Suite) (old between now : Option (List ℕ)) (count : ℕ) (passes both : Bool)
    (tally : Tally)
    → i < length suites → suite ≡ get_or suites i d → both ≡ (passes && tally.all_pass)
    → AreRun manner (map suite_view (take i suites)) old between count passes → IsRun manner (suite_view suite) count between now tally
    → AreRun manner (map suite_view (take (i + 1) suites)) old now tally.count both
one_run manner suites i d suite old between now count passes both tally within is both_is before one =
    let longer : map suite_view (take (i + 1) suites) ≡ map suite_view (take i suites) ++ suite_view suite ∷ [] =
    map_more suite_view suites i d within ∙ ap (λ (s : Suite). map suite_view (take i suites) ++ suite_view s ∷ []) (sym is) in
    let next = subst (λ (n : ℕ). IsOutcome manner (suite_view suite) n one.outcome) (sym before.count_is) one.is in
    record {
      all = joined before.all one.outcome;
      are = subst (λ (s : List SuiteAsked). AreOutcomes manner 0 s (joined before.all one.outcome)) (sym longer)
          (one_more manner 0 (map suite_view (take i suites)) (suite_view suite) before.all one.outcome before.are next);
      count_is = one.count_is;
      passes_is = ap (λ (b : Bool). b && one.outcome.passes) before.passes_is ∙ (ap (λ (b : Bool). passes && b) one.passes_is ∙ sym both_is);
      written = Appends-trans old between now before.all.text one.outcome.text before.written one.written;
    }

pub all_run : (manner : Manner) (suites : List Suite) (n : ℕ) (old now : Option (List ℕ)) (count : ℕ) (passes : Bool) → length suites ≤ n
    → AreRun manner (map suite_view (take n suites)) old now count passes → AreRun manner (map suite_view suites) old now count passes
all_run manner suites n old now count passes past before =
    subst (λ (s : List Suite). AreRun manner (map suite_view s) old now count passes) (take_all n suites past) before

-- ---- beginnings

-- Where a call ends with an error, this holds.
pub stopped : {X E : Type 0} (r : Result X E) (P : X → Type 0) (Q : Type 0) → IsErr r → Q → MatchResult r P (λ _. Q)
stopped r P Q e q = MatchResult-from_err r P (λ _. Q) e (λ _. q)

-- A text was written, and nothing of the next one.
pub front_whole : (a b : Option (List ℕ)) (xs ys : List ℕ) → Appends a b xs → AppendsFront a b (xs ++ ys)
front_whole a b xs ys p = front_after a b b xs ys p (front_none b ys)

-- What was told of all suites begins what is told of them.
pub begun_if_tested : (asked : TestAsked) (old new : Option (List ℕ)) (passes : Bool) → AreTested asked old new passes → HasBegun asked old new
begun_if_tested asked old new passes tested =
    let text = whole_text asked.telling tested.0 in
    (tested.0, tested.1, subst (AppendsFront old new) (append-nil text) (front_whole old new text [] tested.3))

-- Outcomes of suites.
record SomeOutcomes (manner : Manner) (count : ℕ) (suites : List SuiteAsked) : Type 0 where
  pub all : Outcome
  pub are : AreOutcomes manner count suites all

-- A suite that is not reached: its file of rows may be too large, for all that is known.
unreached : Manner → SuiteAsked → ℕ → Outcome
unreached manner suite count = outcome_by manner.telling suite
    (fault_text manner.telling (tally_after false 0 (fresh_tally count)).count (name_of suite) TOO_LARGE.now (shown_text []))
    (tally_after false 0 (fresh_tally count))

is_unreached : (manner : Manner) (suite : SuiteAsked) (count : ℕ) → IsOutcome manner suite count (unreached manner suite count)
unfolding unreached
is_unreached manner suite count = inr (record {
  fault = InRows TooLarge;
  points = 0;
  ends = refl;
  title = TOO_LARGE.now;
  remarks = shown_text [];
  told = record { few_words = refl; seen = ([], refl) };
  is = refl;
})

some_outcomes : (manner : Manner) (count : ℕ) (suites : List SuiteAsked) → SomeOutcomes manner count suites
some_outcomes manner count [] = record { all = nothing count; are = refl }
some_outcomes manner count (suite ∷ suites) =
    let first = unreached manner suite count in
    let rest = some_outcomes manner first.count suites in
    record { all = joined first rest.all; are = (first, rest.all, is_unreached manner suite count, rest.are, refl) }

-- More suites.
more_outcomes : (manner : Manner) (count : ℕ) (suites more : List SuiteAsked) (all rest : Outcome)
    → AreOutcomes manner count suites all → AreOutcomes manner all.count more rest → AreOutcomes manner count (suites ++ more) (joined all rest)
more_outcomes manner count [] more all rest are then =
    subst (λ (a : Outcome). AreOutcomes manner count more (joined a rest)) (sym are) (subst (λ (a : Outcome). AreOutcomes manner a.count more rest) are then)
more_outcomes manner count (first ∷ suites) more all rest are then =
    let there = subst (λ (a : Outcome). AreOutcomes manner a.count more rest) are.4 then in (
      are.0,
      joined are.1 rest,
      are.2,
      more_outcomes manner are.0.count suites more are.1 rest are.3 there,
      ap (λ (a : Outcome). joined a rest) are.4 ∙ joined_assoc are.0 are.1 rest,
    )

all_suites : (suites : List Suite) (i : ℕ) (d suite : Suite) → i < length suites → suite ≡ get_or suites i d
    → (map suite_view (take i suites) ++ suite_view suite ∷ []) ++ map suite_view (drop (i + 1) suites) ≡ map suite_view suites
all_suites suites i d suite within is =
    ap (λ (s : List SuiteAsked). s ++ map suite_view (drop (i + 1) suites))
    (ap (λ (s : Suite). map suite_view (take i suites) ++ suite_view s ∷ []) is ∙ sym (map_more suite_view suites i d within))
    ∙ (sym (map-append suite_view (take (i + 1) suites) (drop (i + 1) suites)) ∙ ap (λ (s : List Suite). map suite_view s) (take-append-drop (i + 1) suites))

-- One suite more was begun.
pub one_begun : (manner : Manner) (suites : List Suite) (i : ℕ) (d suite : Suite) (old between now : Option (List ℕ)) (count : ℕ) (passes : Bool)
    → i < length suites → suite ≡ get_or suites i d
    → AreRun manner (map suite_view (take i suites)) old between count passes → IsBegun manner (suite_view suite) count between now
    → AreBegun manner (map suite_view suites) old now
one_begun manner suites i d suite old between now count passes within is before one =
    let done = map suite_view (take i suites) ++ suite_view suite ∷ [] in
    let left = map suite_view (drop (i + 1) suites) in
    let so_far = joined before.all one.outcome in
    let next = subst (λ (n : ℕ). IsOutcome manner (suite_view suite) n one.outcome) (sym before.count_is) one.is in
    let told = one_more manner 0 (map suite_view (take i suites)) (suite_view suite) before.all one.outcome before.are next in
    let rest = some_outcomes manner so_far.count left in
    record {
      all = joined so_far rest.all;
      are = subst (λ (s : List SuiteAsked). AreOutcomes manner 0 s (joined so_far rest.all)) (all_suites suites i d suite within is)
          (more_outcomes manner 0 done left so_far rest.all told rest.are);
      written = front_more old now so_far.text rest.all.text (front_after old between now before.all.text one.outcome.text before.written one.written);
    }

-- ---- a suite

pub none_begun : (manner : Manner) (suite : SuiteAsked) (count : ℕ) (old : Option (List ℕ)) → IsBegun manner suite count old old
none_begun manner suite count old = record {
  outcome = unreached manner suite count;
  is = is_unreached manner suite count;
  written = front_none old (unreached manner suite count).text;
}

tested_outcome : (manner : Manner) (suite : SuiteAsked) (count : ℕ) (prepared : Prepared) (tally : Tally) → IsPrepared manner.steps suite prepared
    → tally ≡ tally_rows (ground_in prepared) (fresh_tally count) (tests_in prepared)
    → IsOutcome manner suite count (outcome_by manner.telling suite
    (rows_text manner.telling (ground_in prepared) suite count 1 (lines_of prepared.text.items) (tests_in prepared)) tally)
tested_outcome manner suite count prepared tally p is =
    let text : List ℕ = rows_text manner.telling (ground_in prepared) suite count 1 (lines_of prepared.text.items) (tests_in prepared) in
    let rows_are : List SeenLine → List ℕ → Ground → Outcome = λ rows lines bench. outcome_by manner.telling suite
    (rows_text manner.telling bench suite count 1 (lines_of lines) (tests_of rows)) (tally_rows bench (fresh_tally count) (tests_of rows)) in
    inl (record {
      file = p.file;
      is = ap (outcome_by manner.telling suite text) is
          ∙ (ap (λ (g : Ground). rows_are (map line_view prepared.rows.items) prepared.text.items g) (sym p.ground_is)
          ∙ (ap (λ (t : List ℕ). rows_are (map line_view prepared.rows.items) t (ground_of manner.steps suite p.file)) (sym p.text_is)
          ∙ ap (λ (r : List SeenLine). rows_are r p.file.text (ground_of manner.steps suite p.file)) (sym p.rows_are)));
    })

untested_outcome : (manner : Manner) (suite : SuiteAsked) (count : ℕ) (points : ℕ) (fault : FileFault) (title remarks : List ℕ) (tally : Tally)
    → EndsFile suite.reading points fault → IsFaultText fault title remarks
    → tally ≡ tally_after false points (fresh_tally count)
    → IsOutcome manner suite count (outcome_by manner.telling suite (fault_text manner.telling tally.count (name_of suite) title remarks) tally)
untested_outcome manner suite count points fault title remarks tally ends told is = inr (record {
  fault = fault;
  points = points;
  ends = ends;
  title = title;
  remarks = remarks;
  told = told;
  is = ap (λ (t : Tally). outcome_by manner.telling suite (fault_text manner.telling t.count (name_of suite) title remarks) t) is;
})

-- How the run of a suite ends.
abbrev pub EndsSuite : Manner → SuiteAsked → ℕ → Option (List ℕ) → Option (List ℕ) → Result Tally Stop → Type 0
EndsSuite manner suite count old new result = MatchResult result (IsRun manner suite count old new) (λ _. IsBegun manner suite count old new)

-- What TAP tells of the tests of a suite that was prepared.
abbrev tested_text : Prepared → Telling → SuiteAsked → ℕ → Tally → List ℕ
tested_text prepared telling suite count tally = rows_text telling (ground_in prepared) suite count 1 (lines_of prepared.text.items)
    (tests_in prepared) ++ sum_text telling suite tally.score

pub tested_result : (manner : Manner) (suite : SuiteAsked) (count : ℕ) (old new : Option (List ℕ)) (prepared : Prepared) (result : Result Tally Stop)
    → IsPrepared manner.steps suite prepared
    → IfOk result (λ tally. tally ≡ tally_rows (ground_in prepared) (fresh_tally count) (tests_in prepared))
    → IfOk result (λ tally. Appends old new (tested_text prepared manner.telling suite count tally))
    → IfErr result (λ _. AppendsFront old new (tested_text prepared manner.telling suite count
    (tally_rows (ground_in prepared) (fresh_tally count) (tests_in prepared))))
    → EndsSuite manner suite count old new result
tested_result manner suite count old new prepared (Err stop) p is written begun =
    let tally = tally_rows (ground_in prepared) (fresh_tally count) (tests_in prepared) in
    record {
      outcome = outcome_by manner.telling suite (rows_text manner.telling (ground_in prepared) suite count 1 (lines_of prepared.text.items)
          (tests_in prepared)) tally;
      is = tested_outcome manner suite count prepared tally p refl;
      written = begun;
    }
tested_result manner suite count old new prepared (Ok tally) p is written begun = record {
  outcome = outcome_by manner.telling suite (rows_text manner.telling (ground_in prepared) suite count 1 (lines_of prepared.text.items)
      (tests_in prepared)) tally;
  is = tested_outcome manner suite count prepared tally p is;
  count_is = refl;
  passes_is = refl;
  written = written;
}

-- What TAP tells of a suite that cannot be tested.
abbrev untested_text : Telling → SuiteAsked → Tally → List ℕ → List ℕ → List ℕ
untested_text telling suite tally title remarks = fault_text telling tally.count (name_of suite) title remarks ++ sum_text telling suite tally.score

pub untested_result : {E : Type 0} (contents : E → Option (List ℕ)) (manner : Manner) (suite : SuiteAsked) (count : ℕ) (old new : E) (points : ℕ)
    (fault : FileFault) (result : Result Tally Stop)
    → EndsFile suite.reading points fault → IfOk result (λ tally. tally ≡ tally_after false points (fresh_tally count))
    → IfOk result (λ tally. (title : List ℕ) × (remarks : List ℕ)
    × Appends (contents old) (contents new) (untested_text manner.telling suite tally title remarks) × IsFaultText fault title remarks)
    → IfErr result (λ _. (new ≡ old) ⊎ ((title : List ℕ) × (remarks : List ℕ)
    × AppendsFront (contents old) (contents new) (untested_text manner.telling suite (tally_after false points (fresh_tally count)) title remarks)
    × IsFaultText fault title remarks))
    → EndsSuite manner suite count (contents old) (contents new) result
untested_result contents manner suite count old new points fault (Ok tally) ends is told begun = record {
  outcome = outcome_by manner.telling suite (fault_text manner.telling tally.count (name_of suite) told.0 told.1) tally;
  is = untested_outcome manner suite count points fault told.0 told.1 tally ends told.3 is;
  count_is = refl;
  passes_is = refl;
  written = told.2;
}
untested_result contents manner suite count old new points fault (Err stop) ends is told begun = elim begun [
  | inl same ↦ subst (λ e. IsBegun manner suite count (contents old) (contents e)) (sym same) (none_begun manner suite count (contents old))
  | inr some ↦ record {
    outcome = outcome_by manner.telling suite (fault_text manner.telling (tally_after false points (fresh_tally count)).count (name_of suite) some.0
        some.1) (tally_after false points (fresh_tally count));
    is = untested_outcome manner suite count points fault some.0 some.1 (tally_after false points (fresh_tally count)) ends some.3 refl;
    written = some.2;
  }
]

-- All that is written.
pub all_told : (asked : TestAsked) (suites : List SuiteAsked) (old begun run new : Option (List ℕ)) (count : ℕ) (passes : Bool)
    → suites ≡ suites_of asked.reading asked.sources asked.files → Appends old begun (begin_text asked.telling)
    → AreRun (manner_of asked) suites begun run count passes
    → Appends run new (end_text asked.telling count) → AreTested asked old new passes
all_told asked suites old begun run new count passes are first ran last =
    let told = Appends-trans begun run new ran.all.text (end_text asked.telling ran.all.count) ran.written
    (subst (λ (n : ℕ). Appends run new (end_text asked.telling n)) (sym ran.count_is) last) in (
      ran.all,
      subst (λ (s : List SuiteAsked). AreOutcomes (manner_of asked) 0 s ran.all) are ran.are,
      ran.passes_is,
      Appends-trans old begun new (begin_text asked.telling) (ran.all.text ++ end_text asked.telling ran.all.count) first told,
    )

-- ---- beginnings of it

-- Nothing was written yet, or a beginning of the first line.
pub front_of_first : (asked : TestAsked) (old new : Option (List ℕ)) → AppendsFront old new (begin_text asked.telling) → HasBegun asked old new
front_of_first asked old new front =
    let some = some_outcomes (manner_of asked) 0 (suites_of asked.reading asked.sources asked.files) in (
      some.all,
      some.are,
      front_more old new (begin_text asked.telling) (some.all.text ++ end_text asked.telling some.all.count) front,
    )

pub nothing_told : (asked : TestAsked) (old : Option (List ℕ)) → HasBegun asked old old
nothing_told asked old = front_of_first asked old old (front_none old (begin_text asked.telling))

-- Not all suites were run.
pub front_of_suites : (asked : TestAsked) (suites : List SuiteAsked) (old begun new : Option (List ℕ))
    → suites ≡ suites_of asked.reading asked.sources asked.files → Appends old begun (begin_text asked.telling)
    → AreBegun (manner_of asked) suites begun new → HasBegun asked old new
front_of_suites asked suites old begun new are first ran = (
  ran.all,
  subst (λ (s : List SuiteAsked). AreOutcomes (manner_of asked) 0 s ran.all) are ran.are,
  front_after old begun new (begin_text asked.telling) (ran.all.text ++ end_text asked.telling ran.all.count) first
      (front_more begun new ran.all.text (end_text asked.telling ran.all.count) ran.written),
)

-- The last line was not written whole.
pub front_of_plan : (asked : TestAsked) (suites : List SuiteAsked) (old begun run new : Option (List ℕ)) (count : ℕ) (passes : Bool)
    → suites ≡ suites_of asked.reading asked.sources asked.files → Appends old begun (begin_text asked.telling)
    → AreRun (manner_of asked) suites begun run count passes
    → AppendsFront run new (end_text asked.telling count) → HasBegun asked old new
front_of_plan asked suites old begun run new count passes are first ran last = (
  ran.all,
  subst (λ (s : List SuiteAsked). AreOutcomes (manner_of asked) 0 s ran.all) are ran.are,
  front_after old begun new (begin_text asked.telling) (ran.all.text ++ end_text asked.telling ran.all.count) first
      (front_after begun run new ran.all.text (end_text asked.telling ran.all.count) ran.written
      (subst (λ (n : ℕ). AppendsFront run new (end_text asked.telling n)) (sym ran.count_is) last)),
)
