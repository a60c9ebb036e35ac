use Rattle.std.proofs.Common.{[], subst, sym}
use Rattle.model.specs.Session.{Session}
use Rattle.page_data.specs.Changes.{Tells}
use Rattle.page_data.proofs.Pushing.{on_ok}
use Rattle.page_data.proofs.Turning.{made_led, refused_led, step_recorded}
use Rattle.page_data.proofs.event.record_step.Goals as goal

pub returns-in-Ok-clause-led : goal.returns-in-Ok-clause-led
returns-in-Ok-clause-led c = made_led c.args.event c.args.session.now c.event.new.self c.in-Ok.ensures.ok

pub returns-in-Ok-clause-told : goal.returns-in-Ok-clause-told
returns-in-Ok-clause-told c =
    let s = c.args.session.now in
    on_ok c.push_step.result _ _ c.push_step.ensures.tells
    (λ tells start room h.
    step_recorded c.args.event s c.event.new.self start c.push_step.new.written.items c.requires c.in-Ok.ensures.ok
    (λ made. (tells start s.current [] s.earlier c.look_ahead-ahead.ensures c.is_state.ensures made h).0) room)

pub returns-in-Err-clause-led : goal.returns-in-Err-clause-led
returns-in-Err-clause-led c = refused_led c.args.event c.args.session.now c.event.new.self _ c.in-Err.ensures.err

pub returns-in-Err-clause-told : goal.returns-in-Err-clause-told
returns-in-Err-clause-told c = λ start room h.
    subst (λ (u : Session). Tells start c.args.written.now.items u.earlier u.current) (sym c.in-Err.ensures.err.1) h
