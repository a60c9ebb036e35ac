use Rattle.std.proofs.Common.{◌≡◌, ◌≤◌, ◌+◌, drop}
use Rattle.word_mend.specs.Reported.{within_from}
use Rattle.word_mend.proofs.reporting.within_records.Given as goal

abbrev pub invariant-loop-byte : goal.invariant-loop-byte
invariant-loop-byte l = record {
  few : l.within + l.skipped ≤ l.byte-index;
  rest : l.within + within_from l.skipped (drop l.byte-index l.text) ≡ within_from 0 l.text;
}
