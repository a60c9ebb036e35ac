use Rattle.word_info.specs.Overlaps.{AreNoted}
use Rattle.word_info.proofs.Writes.{writes_before}
use Rattle.word_info.proofs.overlaps.written_again.Given as goal

abbrev pub invariant-loop-place : goal.invariant-loop-place
invariant-loop-place l = AreNoted l.once l.again (writes_before l.text l.place)
