use Rattle.word_dis.proofs.Between.{IsPart}
use Rattle.word_dis.proofs.marks.between.Given as goal

abbrev pub invariant-loop-address : goal.invariant-loop-address
invariant-loop-address l = IsPart l.image l.part l.first l.last l.address
