use Rattle.std.proofs.Common.{inl, inr}
use Rattle.arguments.proofs.Parsed.{says_of_words}
use Rattle.arguments.specs.Words.{texts}
use Rattle.tape_words.specs.Asked.{cmp_view}
use Rattle.tape_words.specs.CommandLines.{cmp}
use Rattle.word_cmp.proofs.compare.tape_cmp.Goals as goal

pub returns-in-Ok-clause-right : goal.returns-in-Ok-clause-right
returns-in-Ok-clause-right g c = λ zero. inr (cmp_view c.in-Ok.words, c.in-Ok.ensures.taken, c.in-Ok.ensures.asked, c.compare_files.ensures.right zero)

pub returns-in-Ok-clause-wrong : goal.returns-in-Ok-clause-wrong
returns-in-Ok-clause-wrong g c = λ one. (cmp_view c.in-Ok.words, c.in-Ok.ensures.taken, c.in-Ok.ensures.asked, c.compare_files.ensures.wrong one)

pub returns-in-Ok-clause-refused : goal.returns-in-Ok-clause-refused
returns-in-Ok-clause-refused g c = λ two. inr (inr (cmp_view c.in-Ok.words, c.in-Ok.ensures.taken, c.in-Ok.ensures.asked, c.compare_files.ensures.fault two))

pub returns-in-Ok-clause-begun : goal.returns-in-Ok-clause-begun
returns-in-Ok-clause-begun g c = λ four. inr (elim (c.compare_files.ensures.begun four) [
  | inl told ↦ inl (cmp_view c.in-Ok.words, c.in-Ok.ensures.taken, c.in-Ok.ensures.asked, told)
  | inr same ↦ inr (cmp_view c.in-Ok.words, c.in-Ok.ensures.taken, c.in-Ok.ensures.asked, same)
])

pub returns-in-Err-clause-right : goal.returns-in-Err-clause-right
returns-in-Err-clause-right g c = λ zero. inl ((says_of_words cmp (texts c.args.words.now) _ _ _ c.in-Err.ensures.refused
    c.refused_words.ensures.status).help (inl zero))

pub returns-in-Err-clause-wrong : goal.returns-in-Err-clause-wrong
returns-in-Err-clause-wrong g c = λ one. absurd ((says_of_words cmp (texts c.args.words.now) _ _ _ c.in-Err.ensures.refused
    c.refused_words.ensures.status).never one)

pub returns-in-Err-clause-refused : goal.returns-in-Err-clause-refused
returns-in-Err-clause-refused g c = λ two. elim ((says_of_words cmp (texts c.args.words.now) _ _ _ c.in-Err.ensures.refused
    c.refused_words.ensures.status).wrong two) [ inl m ↦ inl m | inr w ↦ inr (inl w) ]

pub returns-in-Err-clause-begun : goal.returns-in-Err-clause-begun
returns-in-Err-clause-begun g c = λ four. inl ((says_of_words cmp (texts c.args.words.now) _ _ _ c.in-Err.ensures.refused
    c.refused_words.ensures.status).help (inr four))
