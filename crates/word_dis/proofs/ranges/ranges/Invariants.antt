use Rattle.marks_files.specs.Values.{range_of}
use Rattle.word_dis.proofs.Words.{Reads}
use Rattle.word_dis.proofs.ranges.ranges.Given as goal

abbrev pub invariant-loop-word : goal.invariant-loop-word
invariant-loop-word l = Reads (λ w. w.now) range_of l.words l.word-index l.ranges.items
