use Rattle.word_test.specs.Views.{test_view}
use Rattle.word_test.proofs.Facts.{begun_if_tested, nothing_told}
use Rattle.word_test.proofs.run.run_reported.Goals as goal

pub returns-in-Err-clause-begun : goal.returns-in-Err-clause-begun
returns-in-Err-clause-begun g c = λ high. nothing_told (test_view c.args.words.now) _

-- A report cannot be written: all was told before.
pub returns-in-Ok-run_told-clause-begun : goal.returns-in-Ok-run_told-clause-begun
returns-in-Ok-run_told-clause-begun g c = λ high.
    begun_if_tested (test_view c.args.words.now) (g.O.Write.contents c.args.output.now) (g.O.Write.contents c.run_told.new.output) c.in-Ok-run_told.all_pass
    c.in-Ok-run_told.ensures
