-- What is told beside TAP: the report for JUnit, and the records for lcov. Source: mos65.
use Rattle.std.specs.Prelude.{ℕ, Bool, true, false, List, [], Option, None, Some, option_map}
use Rattle.accesses.specs.Tallies.{Counts, no_counts}
use Rattle.arguments.specs.declared.file_options.FileForm.{FileForm}
use Rattle.arguments.specs.declared.file_options.FileForm.TheVariants.{Source}
use Rattle.source_map.specs.Lines.{file_name}
use Rattle.trace_rows.specs.Records.{record_text, records_text}
use Rattle.word_test.specs.declared.report.Report.{Report}
use Rattle.t65_reports.specs.Junit.{ReportTold, report_told}
use Rattle.t65_suites.specs.declared.prepared.Prepared.{Prepared}

-- The report, where one is asked for.
abbrev pub told_in : Report → Option ReportTold
told_in report = option_map (λ f. report_told f.junit) report.file

-- Steps are counted from none on, where a file is asked for.
abbrev pub counts_begun : Bool → Option Counts
counts_begun true = Some (record { visits = no_counts; cycles = no_counts })
counts_begun false = None

-- The record of a source, or those of the files that the debug information of an image names.
abbrev pub record_by : FileForm → Prepared → Counts → List ℕ
record_by Source prepared counts
    = record_text (file_name prepared.places.sources 0) prepared.assembly counts
record_by form prepared counts = records_text prepared.places counts

-- The records of a suite, where its steps were counted.
abbrev pub record_of : Prepared → Option Counts → List ℕ
record_of prepared None = []
record_of prepared (Some counts) = record_by prepared.form prepared counts
