use Rattle.std.proofs.Common.{subst}
use Rattle.model.specs.Writers.{AppendsFront}
use Rattle.model.proofs.Written.{front_none}
use Rattle.word_test.proofs.Facts.{stopped}
use Rattle.word_test.proofs.rows.write_told.Goals as goal

pub returns-in_err-push_test-clause-written : goal.returns-in_err-push_test-clause-written
returns-in_err-push_test-clause-written g c = stopped _ _ _ c.from_residual.ensures.0 (front_none _ _)

pub returns-in_err-write_text-clause-written : goal.returns-in_err-write_text-clause-written
returns-in_err-write_text-clause-written g c = stopped _ _ _ c.from_residual-in_err-write_text.ensures.0
    (subst (AppendsFront (g.O.Write.contents c.args.output.now) (g.O.Write.contents c.write_text.new.output)) c.as_bytes.ensures.value
    c.in_err-write_text.ensures)
