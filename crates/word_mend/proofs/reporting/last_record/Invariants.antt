use Rattle.std.proofs.Common.{◌≡◌, ◌≤◌, drop}
use Rattle.word_mend.specs.Reported.{last_record}
use Rattle.word_mend.proofs.Found.{later}
use Rattle.word_mend.proofs.reporting.last_record.Given as goal

abbrev pub invariant-loop-place : goal.invariant-loop-place
invariant-loop-place l = record {
  last : l.last ≤ l.place;
  rest : later (drop l.last l.bytes) (drop l.place l.bytes) ≡ last_record l.bytes;
}
