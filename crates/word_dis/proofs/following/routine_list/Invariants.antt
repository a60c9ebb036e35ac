use Rattle.marks_files.specs.Values.{routine_of}
use Rattle.word_dis.proofs.Words.{Reads}
use Rattle.word_dis.proofs.following.routine_list.Given as goal

abbrev pub invariant-loop-word : goal.invariant-loop-word
invariant-loop-word l = Reads (λ w. w.now) routine_of l.words l.word-index l.routines.items
