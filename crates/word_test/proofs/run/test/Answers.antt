use Rattle.std.proofs.Common.{arith, inl, inr}
use Rattle.arguments.proofs.Parsed.{says_of_words}
use Rattle.arguments.specs.Words.{texts}
use Rattle.word_test.specs.CommandLine.{test}
use Rattle.word_test.specs.Views.{test_view}
use Rattle.word_test.proofs.run.test.Goals as goal

pub returns-in-Ok-clause-passed : goal.returns-in-Ok-clause-passed
returns-in-Ok-clause-passed g c = λ zero. inr (test_view c.in-Ok.asked, c.in-Ok.ensures.taken, c.in-Ok.ensures.asked, c.run_words.ensures.passed zero)

pub returns-in-Ok-clause-failed : goal.returns-in-Ok-clause-failed
returns-in-Ok-clause-failed g c = λ one. (test_view c.in-Ok.asked, c.in-Ok.ensures.taken, c.in-Ok.ensures.asked, c.run_words.ensures.failed one)

pub returns-in-Ok-clause-refused : goal.returns-in-Ok-clause-refused
returns-in-Ok-clause-refused g c = λ two. absurd (c.run_words.ensures.never two)

pub returns-in-Ok-clause-memory : goal.returns-in-Ok-clause-memory
returns-in-Ok-clause-memory g c = λ three. inr (
  test_view c.in-Ok.asked,
  c.in-Ok.ensures.taken,
  c.in-Ok.ensures.asked,
  c.run_words.ensures.begun
      (omega (arith, three)),
)

pub returns-in-Ok-clause-begun : goal.returns-in-Ok-clause-begun
returns-in-Ok-clause-begun g c = λ four. inr (
  test_view c.in-Ok.asked,
  c.in-Ok.ensures.taken,
  c.in-Ok.ensures.asked,
  c.run_words.ensures.begun
      (omega (arith, four)),
)

pub returns-in-Err-clause-passed : goal.returns-in-Err-clause-passed
returns-in-Err-clause-passed g c = λ zero. inl ((says_of_words test (texts c.args.words.now) _ _ _ c.in-Err.ensures.refused
    c.refused_words.ensures.status).help (inl zero))

pub returns-in-Err-clause-failed : goal.returns-in-Err-clause-failed
returns-in-Err-clause-failed g c = λ one. absurd ((says_of_words test (texts c.args.words.now) _ _ _ c.in-Err.ensures.refused
    c.refused_words.ensures.status).never one)

pub returns-in-Err-clause-refused : goal.returns-in-Err-clause-refused
returns-in-Err-clause-refused g c = λ two. (says_of_words test (texts c.args.words.now) _ _ _ c.in-Err.ensures.refused c.refused_words.ensures.status).wrong two

pub returns-in-Err-clause-memory : goal.returns-in-Err-clause-memory
returns-in-Err-clause-memory g c = λ three. inl (c.refused_words.ensures.untouched (omega (arith, three)) (omega (arith, three)))

pub returns-in-Err-clause-begun : goal.returns-in-Err-clause-begun
returns-in-Err-clause-begun g c = λ four. inl ((says_of_words test (texts c.args.words.now) _ _ _ c.in-Err.ensures.refused
    c.refused_words.ensures.status).help (inr four))
