use Rattle.std.proofs.Common.{◌≡◌, ◌+◌, drop}
use Rattle.image_reader.specs.Progress.{with_again}
use Rattle.image_reader.proofs.reading.note_each.Given as goal

abbrev pub invariant-loop-i : goal.invariant-loop-i
invariant-loop-i l = with_again l.image l.again (l.address + l.i) (drop l.i l.bytes) ≡ with_again l.image l.initial.again l.address l.bytes
