use Rattle.std.proofs.Common.{◌≡◌, drop}
use Rattle.std.specs.List.{list_any}
use Rattle.t65_reports.specs.Csv.{is_quoted_byte}
use Rattle.t65_reports.proofs.csv.is_quoted.Given as goal

abbrev pub invariant-loop-byte : goal.invariant-loop-byte
invariant-loop-byte l = list_any is_quoted_byte l.field ≡ list_any is_quoted_byte (drop l.byte-index l.field)
