use Rattle.std.proofs.Common.{◌∙◌, Some, None, ap, refl}
use Rattle.word_trace.specs.Gathered.{gathered, passed}
use Rattle.word_trace.proofs.Making.{turned}
use Rattle.word_trace.proofs.turns.pass_slowly.Goals as goal

pub returns-in-Ok-Some-clause-ok : goal.returns-in-Ok-Some-clause-ok
returns-in-Ok-Some-clause-ok g c =
    let turn = rw c.in-Ok-Some.field-0-is at c.in-Ok-Some.ensures.ok in
    (turn.0, turned (Some c.in-Ok-Some.ending) _ _ _ _ _ _ turn.0 turn.1 turn.2 turn.3 turn.4, refl)

pub returns-clause-ok : goal.returns-clause-ok
returns-clause-ok g c =
    let turn = rw c.in-Ok-None.field-0-is at c.in-Ok-None.ensures.ok in
    let s = c.args.session.now.current in
    let t = c.take_turn.new.session.current in (
      turn.0,
      turned None _ _ _ _ _ _ turn.0 turn.1 turn.2 turn.3 turn.4,
      c.pass.ensures.passed
          ∙ ap (λ x. passed t x (gathered c.args.tracer.now)) c.look_ahead-ahead.ensures,
    )

pub returns-in-Err-clause-err : goal.returns-in-Err-clause-err
returns-in-Err-clause-err g c =
    let cut = c.in-Err.ensures.err in (cut.0, record { consumes = cut.1; over = cut.2; once = cut.3; cut = cut.4 })
