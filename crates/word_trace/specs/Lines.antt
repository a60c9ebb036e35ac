-- How often the lines of a program were run, as lcov reads it. Source: mos65.
use Rattle.std.specs.Prelude.{ℕ, List, [], Option, None, Some}
use Rattle.accesses.specs.Tallies.{Counts}
use Rattle.assembler.specs.Assembly.{AssemblyView}
use Rattle.source_map.specs.Lines.{PlacesView}
use Rattle.trace_rows.specs.Records.{record_text, records_text}

abbrev pub source_text : List ℕ → Option AssemblyView → Counts → List ℕ
source_text file None counts = []
source_text file (Some assembly) counts = record_text file assembly counts

-- Of the files of debug information, if there is some; otherwise of the source, which is one file.
abbrev pub lines_text : List ℕ → Option AssemblyView → Option PlacesView → Counts → List ℕ
lines_text file assembly None counts = source_text file assembly counts
lines_text file assembly (Some places) counts = records_text places counts
