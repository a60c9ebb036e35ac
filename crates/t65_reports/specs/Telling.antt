-- What is written of tests: TAP, the tests that fail, or CSV. Source: mos65.
use Rattle.std.specs.Prelude.{ℕ, true, List, [], Option, None, Some}
use Rattle.t65_reports.specs.Reports.{plan_text, tap_case, tap_fault, tap_row, tap_title}
use Rattle.t65_reports.specs.declared.telling.Telling.{Telling}
use Rattle.t65_reports.specs.declared.telling.Telling.TheVariants.{Csv, Quiet, Summed, Tap}
use Rattle.t65_reports.specs.declared.wording.TheConstants.{CSV_BEGIN, NOTHING, TAP_BEGIN}

-- What stands before all tests: the first line of TAP, or the names of the fields of CSV.
abbrev pub begin_text : Telling → List ℕ
begin_text Tap = TAP_BEGIN.now
begin_text Summed = TAP_BEGIN.now
begin_text Quiet = NOTHING.now
begin_text Csv = CSV_BEGIN.now

-- The row of a test that fails.
abbrev pub quiet_case : ℕ → List ℕ → ℕ → List ℕ → Option (List ℕ) → List ℕ
quiet_case count file line text None = []
quiet_case count file line text (Some why) = tap_row true count file line text

-- What is told of a row, by its number among all tests.
abbrev pub case_text : Telling → ℕ → List ℕ → ℕ → List ℕ → Option (List ℕ) → List ℕ
case_text Tap count file line text why = tap_case count file line text why
case_text Summed count file line text why = tap_case count file line text why
case_text Quiet count file line text why = quiet_case count file line text why
case_text Csv count file line text why = []

-- What is told of a file that cannot be tested.
abbrev pub fault_text : Telling → ℕ → List ℕ → List ℕ → List ℕ → List ℕ
fault_text Tap number file title remarks = tap_fault number file title remarks
fault_text Summed number file title remarks = tap_fault number file title remarks
fault_text Quiet number file title remarks = tap_title number file title
fault_text Csv number file title remarks = []

-- What stands behind all tests: in TAP how many there are.
abbrev pub end_text : Telling → ℕ → List ℕ
end_text Tap count = plan_text count
end_text Summed count = plan_text count
end_text Quiet count = []
end_text Csv count = []
