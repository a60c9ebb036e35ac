use Rattle.model.proofs.Written.{front_none}
use Rattle.word_test.proofs.Facts.{stopped}
use Rattle.word_test.proofs.rows.run_rows.Goals as goal

pub returns-in_err-around-clause-written : goal.returns-in_err-around-clause-written
returns-in_err-around-clause-written g c = stopped _ _ _ c.from_residual.ensures.0 (front_none _ _)
