use Rattle.std.proofs.Common.{inl, inr}
use Rattle.arguments.proofs.Parsed.{says_of_words}
use Rattle.arguments.specs.Words.{texts}
use Rattle.word_info.specs.Debugged.{IsTold}
use Rattle.word_info.specs.Word.{EndsInfo}
use Rattle.word_info.proofs.Word.{no_map}
use Rattle.tape_words.specs.Asked.{info_view}
use Rattle.tape_words.specs.CommandLines.{info}
use Rattle.tape_words.proofs.Said.{said_right, said_wrong, said_front, said_two}
use Rattle.word_info.proofs.run.tape_info.Goals as goal

pub returns-in-Ok-clause-right : goal.returns-in-Ok-clause-right
returns-in-Ok-clause-right g c = λ zero. inr (
  info_view c.in-Ok.words,
  c.in-Ok.ensures.taken,
  c.in-Ok.ensures.asked,
  said_right (IsTold (info_view c.in-Ok.words)) c.answer_to.result c.answered.result _ _ c.answer_to.ensures.about c.answered.ensures.said zero,
)

pub returns-in-Ok-clause-wrong : goal.returns-in-Ok-clause-wrong
returns-in-Ok-clause-wrong g c = λ one. (
  info_view c.in-Ok.words,
  c.in-Ok.ensures.taken,
  c.in-Ok.ensures.asked,
  said_wrong (IsTold (info_view c.in-Ok.words)) c.answer_to.result c.answered.result _ _ _ c.answer_to.ensures.about c.answered.ensures.said
      c.answered.ensures.alone one,
)

pub returns-in-Ok-clause-refused : goal.returns-in-Ok-clause-refused
returns-in-Ok-clause-refused g c = λ two. inr (inr (
  info_view c.in-Ok.words,
  c.in-Ok.ensures.taken,
  c.in-Ok.ensures.asked,
  no_map (info_view c.in-Ok.words) (said_two (IsTold (info_view c.in-Ok.words)) c.answer_to.result c.answered.result _ _
      (EndsInfo (info_view c.in-Ok.words)) c.answer_to.ensures.about c.answered.ensures.said c.answer_to.ensures.refused two),
))

pub returns-in-Ok-clause-begun : goal.returns-in-Ok-clause-begun
returns-in-Ok-clause-begun g c = λ four. inr (
  info_view c.in-Ok.words,
  c.in-Ok.ensures.taken,
  c.in-Ok.ensures.asked,
  said_front (IsTold (info_view c.in-Ok.words)) c.answer_to.result c.answered.result _ _ _ c.answer_to.ensures.about c.answered.ensures.said
      c.answered.ensures.alone four,
)

pub returns-in-Err-clause-right : goal.returns-in-Err-clause-right
returns-in-Err-clause-right g c = λ zero. inl ((says_of_words info (texts c.args.words.now) _ _ _ c.in-Err.ensures.refused
    c.refused_words.ensures.status).help (inl zero))

pub returns-in-Err-clause-wrong : goal.returns-in-Err-clause-wrong
returns-in-Err-clause-wrong g c = λ one. absurd ((says_of_words info (texts c.args.words.now) _ _ _ c.in-Err.ensures.refused
    c.refused_words.ensures.status).never one)

pub returns-in-Err-clause-refused : goal.returns-in-Err-clause-refused
returns-in-Err-clause-refused g c = λ two. elim ((says_of_words info (texts c.args.words.now) _ _ _ c.in-Err.ensures.refused
    c.refused_words.ensures.status).wrong two) [ inl m ↦ inl m | inr w ↦ inr (inl w) ]

pub returns-in-Err-clause-begun : goal.returns-in-Err-clause-begun
returns-in-Err-clause-begun g c = λ four. inl ((says_of_words info (texts c.args.words.now) _ _ _ c.in-Err.ensures.refused
    c.refused_words.ensures.status).help (inr four))
