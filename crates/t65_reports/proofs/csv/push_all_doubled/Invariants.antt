use Rattle.std.proofs.Common.{◌≡◌, ◌++◌, drop}
use Rattle.t65_reports.specs.Csv.{doubled_all}
use Rattle.t65_reports.proofs.csv.push_all_doubled.Given as goal

abbrev pub invariant-loop-byte : goal.invariant-loop-byte
invariant-loop-byte l = l.line.items ++ doubled_all (drop l.byte-index l.field) ≡ l.initial.line.items ++ doubled_all l.field
