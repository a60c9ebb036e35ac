use Rattle.std.proofs.Common.{inl, inr}
use Rattle.console.proofs.running.play.Goals as goal

pub returns-in-Err-clause-err : goal.returns-in-Err-clause-err
returns-in-Err-clause-err g c =
    let e = c.in-Err.ensures.err in (e.0, e.1, e.2, e.3, inl e.4)

pub returns-in-Err-flush-clause-err : goal.returns-in-Err-flush-clause-err
returns-in-Err-flush-clause-err g c =
    let e = c.in-Ok.ensures.ok in (e.0, e.1, e.2, e.3, inr (record { session = e.4.session; left = e.4.left }))
