use Rattle.mos65_c.proofs.Refused.{tape_read, tape_refused}
use Rattle.mos65_c.proofs.opening.mos65_open_tape.Goals as goal

pub returns-in-Ok-read_tape-clause-opened : goal.returns-in-Ok-read_tape-clause-opened
returns-in-Ok-read_tape-clause-opened c closed right =
    let all = c.in-Ok-read_tape.ensures in
    tape_read _ _ c.in-Ok.ensures.ok.0 _ _ c.in-Ok-read_tape.image _ _ c.none.ensures _ c.start.ensures
    all.found all.only (λ f. all.refused f.kind f.offset)

pub returns-in-Err-read_tape-clause-opened : goal.returns-in-Err-read_tape-clause-opened
returns-in-Err-read_tape-clause-opened c closed right =
    let all = c.in-Err-read_tape.ensures in
    tape_refused _ _ c.in-Ok.ensures.ok.0 _ _ c.in-Err-read_tape.refusal _ closed c.number.result c.number.ensures
    all.only (λ f. all.refused f.kind f.offset)
