use Rattle.word_test.specs.Views.{test_view}
use Rattle.word_test.proofs.Facts.{nothing_told}
use Rattle.word_test.proofs.run.run_checked.Goals as goal

pub returns-in-Err-check_reports-clause-begun : goal.returns-in-Err-check_reports-clause-begun
returns-in-Err-check_reports-clause-begun g c = λ high. nothing_told (test_view c.args.words.now) _

pub returns-in-Ok-true-clause-begun : goal.returns-in-Ok-true-clause-begun
returns-in-Ok-true-clause-begun g c = λ high. nothing_told (test_view c.args.words.now) _

pub returns-in-Err-clause-begun : goal.returns-in-Err-clause-begun
returns-in-Err-clause-begun g c = λ high. nothing_told (test_view c.args.words.now) _
