use Rattle.std.proofs.Common.{◌≡◌, ◌≤◌, ◌+◌, ◌++◌, length}
use Rattle.model.specs.TextLines.{lines_of}
use Rattle.word_mend.specs.RecordMending.{sums_from, wrong_sums}
use Rattle.word_mend.proofs.checksums.wrong_sums.Given as goal

abbrev pub invariant-loop-rest : goal.invariant-loop-rest
invariant-loop-rest l = record {
  found : l.sums.items ++ sums_from l.form (l.number + 1) (lines_of l.rest) ≡ wrong_sums l.form l.text;
  room : l.number + length l.rest ≤ length l.text;
}

abbrev pub decreases-loop-rest : goal.decreases-loop-rest
decreases-loop-rest l = length l.rest
