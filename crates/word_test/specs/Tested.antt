-- What is told of the tests of a suite, and what they come to. Source: mos65.
use Rattle.std.specs.Prelude.{◌≡◌, ℕ, ◌+◌, ◌-◌, ◌^◌, ◌&&◌, min, Bool, true, false, if◌then◌else◌, is_none, List, [], ◌∷◌, ◌++◌, Option, None, Some, codes, decimal, option_map}
use Rattle.arguments.specs.Shown.{shown_name}
use Rattle.clap.specs.Words.{Text}
use Rattle.t65_suites.specs.Prepared.{Ground, ground_in}
use Rattle.t65_suites.specs.Suites.{SuiteAsked, name_of}
use Rattle.t65_reader.specs.RowText.{SeenLine, SeenRow, faulty, is_hidden, line_number, line_points, readable}
use Rattle.t65_failures.specs.Failures.{detail_text}
use Rattle.t65_failures.specs.Faulty.{faulty_text}
use Rattle.t65_reports.specs.Lines.{line_at, lines_after, next_after}
use Rattle.t65_reports.specs.Junit.{ReportTold, with_test}
use Rattle.t65_reports.specs.Csv.{csv_line}
use Rattle.t65_reports.specs.Reports.{junit_case, summary_text}
use Rattle.t65_reports.specs.Telling.{case_text}
use Rattle.t65_reports.specs.declared.telling.Telling.{Telling}
use Rattle.t65_reports.specs.declared.telling.Telling.TheVariants.{Csv, Quiet, Summed, Tap}
use Rattle.t65_reports.specs.declared.reports.Score.{Score}
use Rattle.t65_runner.specs.Passes.{first_failed, rows_seen}
use Rattle.t65_runner.specs.Start.{fresh}
use Rattle.t65_runner.specs.declared.range_values.Values.{Values}
use Rattle.t65_runner.specs.declared.around.Around.{Around}
use Rattle.t65_suites.specs.declared.prepared.Prepared.{Prepared}
use Rattle.word_test.specs.declared.tally.Tally.{Tally}

-- ---- rows on a machine

-- What is run for a test, one row after another.
abbrev pub run_of : Ground → ℕ × SeenRow → List (ℕ × SeenRow)
run_of bench row = bench.before ++ row ∷ bench.after

-- The first values for which a test fails.
abbrev pub failure_of : Ground → ℕ × SeenRow → Option Values
failure_of bench row = first_failed row.1 (run_of bench row) (fresh bench.bus_map bench.image)

-- Why a row fails, if it does.
abbrev pub why_row : Ground → ℕ × SeenRow → Option (List ℕ)
why_row bench row = option_map (detail_text bench.bus_map bench.image bench.places row.1.ranges
    (run_of bench row)) (failure_of bench row)

-- Why a test fails, if it does: one of a file with this name, which has this text.
abbrev pub why : Ground → Text → List ℕ → SeenLine → Option (List ℕ)
why bench rows text (readable row) = why_row bench row
why bench rows text (faulty row) = Some (faulty_text bench.names rows text row.fault)

-- Whether a test passes.
abbrev pub passes : Ground → SeenLine → Bool
passes bench (readable row) = is_none (failure_of bench row)
passes bench (faulty row) = false

-- ---- hidden rows

-- What is told of a hidden row, which is worth so many points, in the place of its text.
unfoldable pub hidden_line : ℕ → List ℕ
hidden_line points = codes "hidden points=" ++ decimal points

-- Of why it fails, if it does, no byte is told.
abbrev pub hidden_why : Option (List ℕ) → Option (List ℕ)
hidden_why None = None
hidden_why (Some why) = Some []

abbrev pub told_line : ℕ → List ℕ → List ℕ
told_line points text = if is_hidden text then hidden_line points else text

abbrev pub told_why : List ℕ → Option (List ℕ) → Option (List ℕ)
told_why text why = if is_hidden text then hidden_why why else why

-- What TAP tells of a row with this text, which is worth so many points, and why it fails, if it
-- does.
abbrev pub told_case : Telling → ℕ → List ℕ → ℕ → ℕ → List ℕ → Option (List ℕ) → List ℕ
told_case telling number file line points text why
    = case_text telling number file line (told_line points text) (told_why text why)

-- What the report for JUnit tells of it.
abbrev pub told_junit : List ℕ → List ℕ → ℕ → ℕ → List ℕ → Option (List ℕ) → List ℕ
told_junit file rows line points text why
    = junit_case file rows line (told_line points text) (told_why text why)

-- A count, at most 2^64 - 1.
abbrev pub plus : ℕ → ℕ → ℕ
plus count more = min (count + more) (2 ^ 64 - 1)

-- What is written of tests of a suite after so many others: of each its line of the file, whose
-- lines from the one with the number `next` on are left, and why it fails, if it does.
unfoldable pub rows_text : Telling → Ground → SuiteAsked → ℕ → ℕ → List (List ℕ) → List SeenLine
    → List ℕ
rows_text telling bench suite count next lines [] = []
rows_text telling bench suite count next lines (test ∷ tests)
    = told_case telling (plus count 1) (name_of suite) (line_number test) (line_points test)
    (line_at (line_number test) next lines)
    (why bench suite.rows (line_at (line_number test) next lines) test)
    ++ rows_text telling bench suite (plus count 1) (next_after (line_number test) next lines)
    (lines_after (line_number test) next lines) tests

-- What the report for JUnit gets of the same tests: of each its text, and whether it passes.
unfoldable pub rows_reported : Ground → SuiteAsked → ℕ → List (List ℕ) → List SeenLine → ReportTold
    → ReportTold
rows_reported bench suite next lines [] report = report
rows_reported bench suite next lines (test ∷ tests) report = rows_reported bench suite
    (next_after (line_number test) next lines) (lines_after (line_number test) next lines) tests
    (with_test (passes bench test)
    (told_junit (name_of suite) suite.rows (line_number test) (line_points test)
    (line_at (line_number test) next lines)
    (why bench suite.rows (line_at (line_number test) next lines) test)) report)

-- ---- what they come to

abbrev pub scored : Bool → ℕ → Score → Score
scored true points score = record {
  passed = plus score.passed 1;
  failed = score.failed;
  earned = plus score.earned points;
  worth = plus score.worth points;
}
scored false points score = record {
  passed = score.passed;
  failed = plus score.failed 1;
  earned = score.earned;
  worth = plus score.worth points;
}

-- One more test, which passes or not, and is worth so many points.
abbrev pub tally_after : Bool → ℕ → Tally → Tally
tally_after passes points tally = record {
  count = plus tally.count 1;
  score = scored passes points tally.score;
  all_pass = tally.all_pass && passes;
}

unfoldable pub tally_rows : Ground → Tally → List SeenLine → Tally
tally_rows bench tally [] = tally
tally_rows bench tally (test ∷ tests) = tally_rows bench
    (tally_after (passes bench test) (line_points test) tally) tests

-- Before a suite, after so many tests of others.
abbrev pub fresh_tally : ℕ → Tally
fresh_tally count = record {
  count = count;
  score = record { passed = 0; failed = 0; earned = 0; worth = 0 };
  all_pass = true;
}

-- The source that the words name; no byte where they name none.
abbrev pub source_text : Option Text → Text
source_text None = []
source_text (Some source) = shown_name source

-- What the tests of a suite have come to, where that is told: in a comment, or in a line of CSV.
abbrev pub sum_text : Telling → SuiteAsked → Score → List ℕ
sum_text Tap suite score = []
sum_text Summed suite score = summary_text (name_of suite) score
sum_text Quiet suite score = summary_text (name_of suite) score
sum_text Csv suite score = csv_line (source_text suite.source) (shown_name suite.rows) score

-- ---- a suite

-- The rows that are run before and after each test are those of the file.
pub record IsAround (prepared : Prepared) (around : Around) : Type 0 where
  pub before : rows_seen around.before.items ≡ (ground_in prepared).before
  pub after : rows_seen around.after.items ≡ (ground_in prepared).after
