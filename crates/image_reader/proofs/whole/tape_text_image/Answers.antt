use Rattle.image_reader.proofs.Tapes.{only_err, only_ok}
use Rattle.image_reader.proofs.whole.tape_text_image.Goals as goal

pub returns-in-Ok-clause-only : goal.returns-in-Ok-clause-only
returns-in-Ok-clause-only c = λ cells denotes. only_ok c.in-Ok.image cells (c.in-Ok.ensures.only cells denotes)

pub returns-in-Err-clause-only : goal.returns-in-Err-clause-only
returns-in-Err-clause-only c = λ cells denotes. only_err c.in-Err.fault c.of_tape.result cells c.of_tape.ensures (c.in-Err.ensures.only cells denotes)
