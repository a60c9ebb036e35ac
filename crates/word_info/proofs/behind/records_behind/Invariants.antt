use Rattle.std.proofs.Common.{◌≡◌, ◌≤◌, ◌+◌, length}
use Rattle.model.specs.TextLines.{lines_of}
use Rattle.word_info.specs.Behind.{behind_from, records_behind}
use Rattle.word_info.proofs.behind.records_behind.Given as goal

abbrev pub invariant-loop-rest : goal.invariant-loop-rest
invariant-loop-rest l = record {
  counted : l.count + behind_from l.form l.has_ended (lines_of l.rest) ≡ records_behind l.form l.text;
  room : l.count + length l.rest ≤ length l.text;
}

abbrev pub decreases-loop-rest : goal.decreases-loop-rest
decreases-loop-rest l = length l.rest
