-- The report for JUnit as a text, which is whole after each test. Source: mos65, for JUnit's XML.
use Rattle.std.specs.Prelude.{ℕ, ◌+◌, ◌-◌, ◌^◌, min, Bool, if◌then◌else◌, List, [], ◌++◌, Option, None, Some, option_map, string_bytes}
use Rattle.t65_reports.specs.Reports.{suite_head}
use Rattle.t65_reports.specs.declared.junit.Junit.{Junit}
use Rattle.t65_reports.specs.declared.junit.OpenSuite.{OpenSuite}
use Rattle.t65_reports.specs.declared.wording.TheConstants.{JUNIT_BEGIN, JUNIT_END, SUITE_END}

-- A suite whose tests are run: its file, how many tests it has, how many of those so far fail, and
-- what is told of these.
pub record SuiteTold : Type 0 where
  pub file : List ℕ
  pub tests : ℕ
  pub failed : ℕ
  pub cases : List ℕ

-- A report: the text of the suites that have ended, and the suite whose tests are run, if there is
-- one.
pub record ReportTold : Type 0 where
  pub ended : List ℕ
  pub suite : Option SuiteTold

abbrev pub suite_text : SuiteTold → List ℕ
suite_text suite = suite_head suite.file suite.tests suite.failed ++ suite.cases ++ SUITE_END.now

abbrev pub open_text : Option SuiteTold → List ℕ
open_text None = []
open_text (Some suite) = suite_text suite

-- The whole file.
abbrev pub report_text : ReportTold → List ℕ
report_text report
    = JUNIT_BEGIN.now ++ report.ended ++ open_text report.suite ++ JUNIT_END.now

-- ---- how it grows

abbrev pub no_suite : ReportTold
no_suite = record { ended = []; suite = None }

-- The suite that was begun has ended.
abbrev pub with_end : ReportTold → ReportTold
with_end report = record { ended = report.ended ++ open_text report.suite; suite = None }

-- A suite of so many tests begins.
abbrev pub with_suite : List ℕ → ℕ → ReportTold → ReportTold
with_suite file tests report = record {
  ended = report.ended;
  suite = Some (record { file = file; tests = tests; failed = 0; cases = [] });
}

-- A count, at most 2^64 - 1.
abbrev pub failed_after : Bool → ℕ → ℕ
failed_after passes failed = if passes then failed else min (failed + 1) (2 ^ 64 - 1)

abbrev pub with_case : Bool → List ℕ → SuiteTold → SuiteTold
with_case passes text suite = record {
  file = suite.file;
  tests = suite.tests;
  failed = failed_after passes suite.failed;
  cases = suite.cases ++ text;
}

-- One more test of the suite, which passes or not.
abbrev pub with_test : Bool → List ℕ → ReportTold → ReportTold
with_test passes text report = record {
  ended = report.ended;
  suite = option_map (with_case passes text) report.suite;
}

-- ---- as the code keeps it

abbrev pub suite_told : OpenSuite → SuiteTold
suite_told suite = record {
  file = string_bytes suite.file;
  tests = suite.tests;
  failed = suite.failed;
  cases = string_bytes suite.cases;
}

abbrev pub report_told : Junit → ReportTold
report_told junit = record {
  ended = string_bytes junit.ended;
  suite = option_map suite_told junit.suite;
}
