use Rattle.std.proofs.Common.{inl, inr}
use Rattle.word_dis.specs.Views.{source_view}
use Rattle.word_dis.proofs.MarksSaid.{done_with, no_source, not_marked, said_with}
use Rattle.word_dis.proofs.run.done_with_marks.Goals as goal

pub returns-in-Ok-clause-done : goal.returns-in-Ok-clause-done
returns-in-Ok-clause-done g c = λ zero. done_with (source_view c.args.words) (source_view c.in-Ok.words) _ _ _ _ c.in-Ok.ensures.said
    c.in-Ok.ensures.same (c.serve_words.ensures.done zero)

pub returns-in-Ok-clause-wrong : goal.returns-in-Ok-clause-wrong
returns-in-Ok-clause-wrong g c = λ one. no_source (source_view c.args.words) (source_view c.in-Ok.words) c.in-Ok.ensures.same (c.serve_words.ensures.wrong one)

pub returns-in-Ok-clause-begun : goal.returns-in-Ok-clause-begun
returns-in-Ok-clause-begun g c = λ four. elim (c.serve_words.ensures.begun four) [
  | inl tells ↦ inl (said_with (source_view c.args.words) (source_view c.in-Ok.words) _ _ c.in-Ok.ensures.said c.in-Ok.ensures.same tells)
  | inr same ↦ inr same
]

pub returns-in-Err-clause-wrong : goal.returns-in-Err-clause-wrong
returns-in-Err-clause-wrong g c = (not_marked (source_view c.args.words) c.in-Err.why c.tell.result c.in-Err.ensures.refused c.tell.ensures).0

pub returns-in-Err-clause-never : goal.returns-in-Err-clause-never
returns-in-Err-clause-never g c = (not_marked (source_view c.args.words) c.in-Err.why c.tell.result c.in-Err.ensures.refused c.tell.ensures).1
