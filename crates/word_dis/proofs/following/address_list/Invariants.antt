use Rattle.model.specs.Commands.{address_of}
use Rattle.word_dis.proofs.Words.{Reads}
use Rattle.word_dis.proofs.following.address_list.Given as goal

abbrev pub invariant-loop-word : goal.invariant-loop-word
invariant-loop-word l = Reads (λ w. w.now) address_of l.words l.word-index l.addresses.items
