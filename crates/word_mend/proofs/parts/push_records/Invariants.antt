use Rattle.std.proofs.Common.{◌≡◌, ◌++◌, drop}
use Rattle.word_mend.specs.Mending.{with_line_ends}
use Rattle.word_mend.proofs.parts.push_records.Given as goal

abbrev pub invariant-loop-place : goal.invariant-loop-place
invariant-loop-place l = l.out.items ++ with_line_ends (drop l.place l.records) ≡ l.initial.out.items ++ with_line_ends l.records
