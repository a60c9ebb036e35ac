-- What is told of suites, one after another, and whether all of their tests pass. Source: mos65.
use Rattle.std.specs.Prelude.{◌≡◌, ◌⊎◌, ℕ, ◌&&◌, Bool, true, false, List, [], ◌∷◌, ◌++◌, Option}
use Rattle.std.specs.Io.KnownBytes.{Appends}
use Rattle.model.specs.TextLines.{lines_of}
use Rattle.model.specs.Writers.{AppendsFront}
use Rattle.t65_reports.specs.Telling.{begin_text, end_text, fault_text}
use Rattle.t65_reports.specs.declared.telling.Telling.{Telling}
use Rattle.word_test.specs.Asked.{TestAsked}
use Rattle.t65_suites.specs.Ends.{EndsFile}
use Rattle.t65_suites.specs.FaultTexts.{IsShown, IsTitle}
use Rattle.t65_suites.specs.Suites.{SuiteAsked, name_of, suites_of}
use Rattle.word_test.specs.Tested.{fresh_tally, rows_text, sum_text, tally_after, tally_rows}
use Rattle.t65_runner.specs.Parts.{tests_of}
use Rattle.t65_suites.specs.Prepared.{TestedFile, ground_of}
use Rattle.t65_suites.specs.declared.fault.FileFault.{FileFault}
use Rattle.t65_suites.specs.Replaced.{replaces_any}
use Rattle.word_test.specs.declared.files.Manner.{Manner}
use Rattle.word_test.specs.declared.tally.Tally.{Tally}

abbrev pub manner_of : TestAsked → Manner
manner_of asked = record { steps = asked.steps; telling = asked.telling }

-- What is told of a suite, how many tests there are then, and whether those of the suite pass.
pub record Outcome : Type 0 where
  pub text : List ℕ
  pub count : ℕ
  pub passes : Bool

-- The outcome of a suite whose tests have come to a tally.
abbrev pub outcome_by : Telling → SuiteAsked → List ℕ → Tally → Outcome
outcome_by telling suite text tally = record {
  text = text ++ sum_text telling suite tally.score;
  count = tally.count;
  passes = tally.all_pass;
}

-- A suite was tested: its tests are told of in their order, from the first line of the file on.
pub record IsTested (manner : Manner) (suite : SuiteAsked) (count : ℕ) (outcome : Outcome)
    : Type 0 where
  pub file : TestedFile manner.steps suite
  pub is : outcome ≡ outcome_by manner.telling suite
      (rows_text manner.telling (ground_of manner.steps suite file) suite count 1 (lines_of file.text)
      (tests_of file.rows))
      (tally_rows (ground_of manner.steps suite file) (fresh_tally count) (tests_of file.rows))

-- Why a suite cannot be tested, in a few words, and remarks.
pub record IsFaultText (fault : FileFault) (title remarks : List ℕ) : Type 0 where
  pub few_words : IsTitle fault title
  pub seen : IsShown remarks

-- A suite cannot be tested, which is a test of its own that fails, and is worth the points of all
-- rows: why, in a few words, and remarks.
pub record IsUntested (manner : Manner) (suite : SuiteAsked) (count : ℕ) (outcome : Outcome)
    : Type 0 where
  pub fault : FileFault
  pub points : ℕ
  pub ends : EndsFile suite.reading points fault
  pub title : List ℕ
  pub remarks : List ℕ
  pub told : IsFaultText fault title remarks
  pub is : outcome ≡ outcome_by manner.telling suite
      (fault_text manner.telling (tally_after false points (fresh_tally count)).count
      (name_of suite) title remarks)
      (tally_after false points (fresh_tally count))

abbrev pub IsOutcome : Manner → SuiteAsked → ℕ → Outcome → Type 0
IsOutcome manner suite count outcome
    = IsTested manner suite count outcome ⊎ IsUntested manner suite count outcome

-- The outcomes of suites one after another, after so many tests: what is told of them, how many
-- tests there are then, and whether all of them pass.
abbrev pub AreOutcomes : Manner → ℕ → List SuiteAsked → Outcome → Type 0
AreOutcomes manner count [] all = all ≡ record { text = []; count = count; passes = true }
AreOutcomes manner count (suite ∷ suites) all = (first : Outcome) × (rest : Outcome)
    × IsOutcome manner suite count first × AreOutcomes manner first.count suites rest
    × (all ≡ record {
      text = first.text ++ rest.text;
      count = rest.count;
      passes = first.passes && rest.passes;
    })

-- A suite was run after so many tests, and a stream got what is told of it.
pub record IsRun (manner : Manner) (suite : SuiteAsked) (count : ℕ) (old new : Option (List ℕ))
    (tally : Tally) : Type 0 where
  pub outcome : Outcome
  pub is : IsOutcome manner suite count outcome
  pub count_is : outcome.count ≡ tally.count
  pub passes_is : outcome.passes ≡ tally.all_pass
  pub written : Appends old new outcome.text

-- A suite was begun after so many tests, and a stream got a beginning of what is told of it.
pub record IsBegun (manner : Manner) (suite : SuiteAsked) (count : ℕ) (old new : Option (List ℕ))
    : Type 0 where
  pub outcome : Outcome
  pub is : IsOutcome manner suite count outcome
  pub written : AppendsFront old new outcome.text

-- Suites were run one after another, and a stream got what is told of them.
pub record AreRun (manner : Manner) (suites : List SuiteAsked) (old new : Option (List ℕ))
    (count : ℕ) (passes : Bool) : Type 0 where
  pub all : Outcome
  pub are : AreOutcomes manner 0 suites all
  pub count_is : all.count ≡ count
  pub passes_is : all.passes ≡ passes
  pub written : Appends old new all.text

-- A stream got a beginning of what is told of suites.
pub record AreBegun (manner : Manner) (suites : List SuiteAsked) (old new : Option (List ℕ))
    : Type 0 where
  pub all : Outcome
  pub are : AreOutcomes manner 0 suites all
  pub written : AppendsFront old new all.text

-- All that is written: what stands before all tests, what is told of the suites, and what stands
-- behind them.
abbrev pub whole_text : Telling → Outcome → List ℕ
whole_text telling all = begin_text telling ++ (all.text ++ end_text telling all.count)

-- The suites that are asked for were tested, and told of on a stream; all of their tests pass, or
-- not.
abbrev pub AreTested : TestAsked → Option (List ℕ) → Option (List ℕ) → Bool → Type 0
AreTested asked old new passes = (all : Outcome)
    × AreOutcomes (manner_of asked) 0 (suites_of asked.reading asked.sources asked.files) all
    × (all.passes ≡ passes) × Appends old new (whole_text asked.telling all)

-- A stream got a beginning of what is told of the suites that are asked for.
abbrev pub HasBegun : TestAsked → Option (List ℕ) → Option (List ℕ) → Type 0
HasBegun asked old new = (all : Outcome)
    × AreOutcomes (manner_of asked) 0 (suites_of asked.reading asked.sources asked.files) all
    × AppendsFront old new (whole_text asked.telling all)

-- Neither report has the name of a file that is read by a name of the words.
pub record AreKept (asked : TestAsked) : Type 0 where
  pub junit : replaces_any asked.junit
      (suites_of asked.reading asked.sources asked.files) ≡ false
  pub coverage : replaces_any asked.coverage
      (suites_of asked.reading asked.sources asked.files) ≡ false
