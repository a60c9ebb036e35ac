use Rattle.std.proofs.Common.{arith, inl, inr}
use Rattle.word_check.specs.CommandLine.{check, check_view}
use Rattle.arguments.proofs.Parsed.{says_of_words}
use Rattle.arguments.specs.Words.{texts}
use Rattle.word_check.proofs.Ends.{done_at, refused_at}
use Rattle.word_check.proofs.running.check.Goals as goal

pub returns-in-Ok-clause-right : goal.returns-in-Ok-clause-right
returns-in-Ok-clause-right g c = λ zero.
    inr (
      check_view c.in-Ok.words,
      c.in-Ok.ensures.fits,
      c.in-Ok.ensures.asked,
      done_at _ _ _ _ c.serve_words.result 0
          (c.serve_words.ensures.done (omega (arith, zero))) zero (λ e. omega (arith, e)),
    )

pub returns-in-Ok-clause-told : goal.returns-in-Ok-clause-told
returns-in-Ok-clause-told g c = λ one. (
  check_view c.in-Ok.words,
  c.in-Ok.ensures.fits,
  c.in-Ok.ensures.asked,
  done_at _ _ _ _ c.serve_words.result 1 (c.serve_words.ensures.done (omega (arith, one)))
      one (λ e. omega (arith, e)),
)

pub returns-in-Ok-clause-refused : goal.returns-in-Ok-clause-refused
returns-in-Ok-clause-refused g c = λ two.
    inr (inr (
      check_view c.in-Ok.words,
      c.in-Ok.ensures.fits,
      c.in-Ok.ensures.asked,
      refused_at _ _ _ _ c.serve_words.result 2
          (c.serve_words.ensures.done (omega (arith, two))) two,
    ))

pub returns-in-Ok-clause-begun : goal.returns-in-Ok-clause-begun
returns-in-Ok-clause-begun g c = λ four. inr (check_view c.in-Ok.words, c.in-Ok.ensures.fits, c.in-Ok.ensures.asked, c.serve_words.ensures.begun four)

pub returns-in-Ok-clause-untouched : goal.returns-in-Ok-clause-untouched
returns-in-Ok-clause-untouched g c = λ least most. elim (c.serve_words.ensures.done most) [
  | inl mapless ↦ inl mapless.2
  | inr done ↦ inr (check_view c.in-Ok.words, c.in-Ok.ensures.fits, c.in-Ok.ensures.asked, done)
]

pub returns-in-Err-clause-right : goal.returns-in-Err-clause-right
returns-in-Err-clause-right g c = λ zero. inl ((says_of_words check (texts c.args.words.now) _ _ _ c.in-Err.ensures.refused
    c.refused_words.ensures.status).help (inl zero))

pub returns-in-Err-clause-told : goal.returns-in-Err-clause-told
returns-in-Err-clause-told g c = λ one. absurd ((says_of_words check (texts c.args.words.now) _ _ _ c.in-Err.ensures.refused
    c.refused_words.ensures.status).never one)

pub returns-in-Err-clause-refused : goal.returns-in-Err-clause-refused
returns-in-Err-clause-refused g c = λ two. elim ((says_of_words check (texts c.args.words.now) _ _ _ c.in-Err.ensures.refused
    c.refused_words.ensures.status).wrong two) [ inl m ↦ inl m | inr w ↦ inr (inl w) ]

pub returns-in-Err-clause-begun : goal.returns-in-Err-clause-begun
returns-in-Err-clause-begun g c = λ four. inl ((says_of_words check (texts c.args.words.now) _ _ _ c.in-Err.ensures.refused
    c.refused_words.ensures.status).help (inr four))
