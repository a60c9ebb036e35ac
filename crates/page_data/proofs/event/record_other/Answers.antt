use Rattle.std.proofs.Common.{subst, sym}
use Rattle.model.specs.Session.{Session}
use Rattle.page_data.specs.Changes.{Tells}
use Rattle.page_data.proofs.Pushing.{on_ok}
use Rattle.page_data.proofs.Turning.{made_led, other_recorded, refused_led}
use Rattle.page_data.proofs.event.record_other.Goals as goal

pub returns-in-Ok-clause-led : goal.returns-in-Ok-clause-led
returns-in-Ok-clause-led c = made_led c.args.event c.args.session.now c.event.new.self c.in-Ok.ensures.ok

pub returns-in-Ok-clause-told : goal.returns-in-Ok-clause-told
returns-in-Ok-clause-told c =
    on_ok c.push_event.result _ _ c.push_event.ensures
    (λ grown start room h.
    other_recorded c.args.event c.look_before-before.result c.args.session.now c.event.new.self start c.args.written.now.items c.push_event.new.written.items
    c.requires c.in-Ok.ensures.ok c.look_before-before.ensures.known grown room h)

pub returns-in-Err-clause-led : goal.returns-in-Err-clause-led
returns-in-Err-clause-led c = refused_led c.args.event c.args.session.now c.event.new.self _ c.in-Err.ensures.err

pub returns-in-Err-clause-told : goal.returns-in-Err-clause-told
returns-in-Err-clause-told c = λ start room h.
    subst (λ (u : Session). Tells start c.args.written.now.items u.earlier u.current) (sym c.in-Err.ensures.err.1) h
