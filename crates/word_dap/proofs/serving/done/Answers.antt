use Rattle.std.proofs.Common.{None, refl}
use Rattle.word_dap.proofs.serving.done.Goals as goal

pub returns-in-Ok-clause-attended : goal.returns-in-Ok-clause-attended
returns-in-Ok-clause-attended g c _ =
    let ended = c.in-Ok.ensures.ended in
    (ended.0, (record { counting = None; client = None }, refl, refl, ended.1), ended.2)

pub returns-in-Err-clause-cut : goal.returns-in-Err-clause-cut
returns-in-Err-clause-cut g c _ =
    let cut = c.in-Err.ensures.cut in
    (c.in-Err.fault, c.cut_off.ensures.status, cut.0, (record { counting = None; client = None }, refl, refl, cut.1), cut.2)
