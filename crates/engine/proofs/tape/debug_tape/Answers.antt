use Rattle.std.proofs.Common.{◌≡◌, Err, ◌⊎◌, inr, sym, ◌∙◌, true, false, true≢false, refl}
use Rattle.model.specs.Event.{start}
use Rattle.model.specs.Session.{new_session}
use Rattle.model.specs.State.{has_port_byte}
use Rattle.model.specs.declared.session_fault.SessionFault.TheVariants.{PortAddress}
use Rattle.engine.specs.Outcome.{Serves}
use Rattle.engine.specs.Refusals.{IfSession}
use Rattle.engine.specs.declared.fault.EngineFault.TheVariants.{Session, OutOfMemory}
use Rattle.engine.proofs.Outcomes.{early_reaches, early_serves, early_tape, reaches_with}
use Rattle.engine.proofs.Refused.{for_each, not_refused, tape_memory, tape_answered, memory_no_tape, no_session}
use Rattle.engine.proofs.tape.debug_tape.Goals as goal

pub returns-in_err-image-clause-faulty : goal.returns-in_err-image-clause-faulty
returns-in_err-image-clause-faulty g c kind offset h =
    tape_answered c.from_residual.result c.in_err-image.field-0.0 _ c.from_residual.ensures.1 (c.in_err-image.ensures.refused kind offset h)

pub returns-in_err-image-clause-right : goal.returns-in_err-image-clause-right
returns-in_err-image-clause-right g c image h =
    memory_no_tape c.from_residual.result (tape_memory c.from_residual.result c.in_err-image.field-0.0 image c.from_residual.ensures.1
    (c.in_err-image.ensures.only image h))

pub returns-in_err-image-clause-port : goal.returns-in_err-image-clause-port
returns-in_err-image-clause-port g c image h port =
    inr (tape_memory c.from_residual.result c.in_err-image.field-0.0 image c.from_residual.ensures.1 (c.in_err-image.ensures.only image h))

pub returns-in_err-image-clause-serves : goal.returns-in_err-image-clause-serves
returns-in_err-image-clause-serves g c image h =
    early_serves c.from_residual.result _ _ _ (early_tape c.from_residual.result c.in_err-image.field-0.0 c.from_residual.ensures.1)

pub returns-in_err-image-clause-reaches : goal.returns-in_err-image-clause-reaches
returns-in_err-image-clause-reaches g c =
    early_reaches c.from_residual.result _ _ (early_tape c.from_residual.result c.in_err-image.field-0.0 c.from_residual.ensures.1) (refl, refl)

pub returns-clause-serves : goal.returns-clause-serves
returns-clause-serves g c =
    for_each (λ image. Serves (new_session c.args.history (start c.args.map image)) (g.R.Read.remaining c.args.reader.now)
    (g.R.Read.remaining c.debug_image.new.reader)
    (g.W.Write.contents c.args.writer.now) (g.W.Write.contents c.debug_image.new.writer) c.debug_image.result)
    c.args.tape.now c.in_ok-image.image c.in_ok-image.ensures.only c.debug_image.ensures.serves

pub returns-clause-reaches : goal.returns-clause-reaches
returns-clause-reaches g c = reaches_with c.debug_image.result _ _ _ (c.in_ok-image.image, c.in_ok-image.ensures.found) c.debug_image.ensures.reaches

pub returns-clause-faulty : goal.returns-clause-faulty
returns-clause-faulty g c kind offset h = absurd (not_refused c.in_ok-image.image _ _ (c.in_ok-image.ensures.refused kind offset h))

pub returns-clause-port : goal.returns-clause-port
returns-clause-port g c =
    for_each (λ image. has_port_byte c.args.map image ≡ true → (c.debug_image.result ≡ Err (Session PortAddress)) ⊎ (c.debug_image.result ≡ Err OutOfMemory))
    c.args.tape.now c.in_ok-image.image c.in_ok-image.ensures.only c.debug_image.ensures.port

pub returns-clause-spared : goal.returns-clause-spared
returns-clause-spared g c =
    for_each (λ image. has_port_byte c.args.map image ≡ false → IfSession c.debug_image.result (λ _. ⊥))
    c.args.tape.now c.in_ok-image.image c.in_ok-image.ensures.only
    (λ none. no_session c.debug_image.result _ c.debug_image.ensures.session (λ fault p. true≢false (sym p.1 ∙ none)))
