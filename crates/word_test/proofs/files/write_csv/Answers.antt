use Rattle.std.proofs.Common.{◌∙◌, subst}
use Rattle.model.specs.Writers.{AppendsFront}
use Rattle.model.proofs.Written.{front_none}
use Rattle.word_test.proofs.Facts.{stopped}
use Rattle.word_test.proofs.files.write_csv.Goals as goal

pub returns-in_err-line : goal.returns-in_err-line
returns-in_err-line g c = stopped _ _ _ c.from_residual.ensures.0 (front_none _ _)

pub returns-in_err-write_text : goal.returns-in_err-write_text
returns-in_err-write_text g c =
    stopped _ _ _ c.from_residual-in_err-write_text.ensures.0
    (subst (AppendsFront (g.O.Write.contents c.args.output.now) (g.O.Write.contents c.write_text.new.output))
    (c.deref.ensures.value ∙ c.in_ok-line.ensures) c.in_err-write_text.ensures)
