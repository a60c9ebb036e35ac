use Rattle.std.proofs.Common.{◌≡◌, Err, ◌⊎◌, refl, sym, ◌∙◌, true, false, true≢false}
use Rattle.model.specs.State.{has_port_byte}
use Rattle.model.specs.declared.session_fault.SessionFault.TheVariants.{PortAddress}
use Rattle.engine.specs.Refusals.{IfSession, of_tape_read}
use Rattle.engine.specs.declared.fault.EngineFault.TheVariants.{Tape, Session, Read, OutOfMemory}
use Rattle.engine.proofs.Refused.{no_session}
use Rattle.engine.proofs.TapeReads.{early_faulty, early_no_source, early_port, early_reaches_from, early_reads, early_refused, early_right, early_session, early_spared, for_each_known, is_fault, late_reads, read_excluded, third_answer}
use Rattle.engine.proofs.tape_from.debug_tape_from.Goals as goal

pub returns-in_err-image-clause-serves : goal.returns-in_err-image-clause-serves
returns-in_err-image-clause-serves g c =
    rw (is_fault c.from_residual.result (of_tape_read c.in_err-image.field-0.0) c.from_residual.ensures.1)
    (early_reaches_from c.in_err-image.field-0.0 _ _ (refl, refl))

pub returns-in_err-image-clause-reads : goal.returns-in_err-image-clause-reads
returns-in_err-image-clause-reads g c =
    rw (is_fault c.from_residual.result (of_tape_read c.in_err-image.field-0.0) c.from_residual.ensures.1)
    (early_reads _ _ c.in_err-image.field-0.0 c.in_err-image.ensures.reads)

pub returns-in_err-image-clause-faulty : goal.returns-in_err-image-clause-faulty
returns-in_err-image-clause-faulty g c =
    rw (is_fault c.from_residual.result (of_tape_read c.in_err-image.field-0.0) c.from_residual.ensures.1)
    (early_faulty _ c.in_err-image.field-0.0 c.in_err-image.ensures.refused)

pub returns-in_err-image-clause-right : goal.returns-in_err-image-clause-right
returns-in_err-image-clause-right g c =
    rw (is_fault c.from_residual.result (of_tape_read c.in_err-image.field-0.0) c.from_residual.ensures.1)
    (early_right _ c.in_err-image.field-0.0 c.in_err-image.ensures.only)

pub returns-in_err-image-clause-refused : goal.returns-in_err-image-clause-refused
returns-in_err-image-clause-refused g c =
    rw (is_fault c.from_residual.result (of_tape_read c.in_err-image.field-0.0) c.from_residual.ensures.1)
    (early_refused _ c.in_err-image.field-0.0 c.in_err-image.ensures.fault)

pub returns-in_err-image-clause-port : goal.returns-in_err-image-clause-port
returns-in_err-image-clause-port g c =
    rw (is_fault c.from_residual.result (of_tape_read c.in_err-image.field-0.0) c.from_residual.ensures.1)
    (early_port _ c.in_err-image.field-0.0 (λ image. has_port_byte c.args.map image ≡ true) c.in_err-image.ensures.only)

pub returns-in_err-image-clause-spared : goal.returns-in_err-image-clause-spared
returns-in_err-image-clause-spared g c =
    rw (is_fault c.from_residual.result (of_tape_read c.in_err-image.field-0.0) c.from_residual.ensures.1)
    (early_spared _ c.in_err-image.field-0.0 (λ image. has_port_byte c.args.map image ≡ false))

pub returns-in_err-image-clause-session : goal.returns-in_err-image-clause-session
returns-in_err-image-clause-session g c =
    rw (is_fault c.from_residual.result (of_tape_read c.in_err-image.field-0.0) c.from_residual.ensures.1) (early_session c.in_err-image.field-0.0 _)

pub returns-in_err-image-clause-source : goal.returns-in_err-image-clause-source
returns-in_err-image-clause-source g c =
    rw (is_fault c.from_residual.result (of_tape_read c.in_err-image.field-0.0) c.from_residual.ensures.1) (early_no_source c.in_err-image.field-0.0)

pub returns-clause-reads : goal.returns-clause-reads
returns-clause-reads g c = late_reads _ _ c.in_ok-image.image c.debug_image.result c.in_ok-image.ensures.reads c.debug_image.ensures.source
    c.debug_image.ensures.tape

pub returns-clause-faulty : goal.returns-clause-faulty
returns-clause-faulty g c =
    read_excluded _ c.in_ok-image.image (λ fault. (c.debug_image.result ≡ Err (Tape fault))
    ⊎ ((c.debug_image.result ≡ Err Read) ⊎ (c.debug_image.result ≡ Err OutOfMemory))) c.in_ok-image.ensures.refused

pub returns-clause-port : goal.returns-clause-port
returns-clause-port g c =
    for_each_known _ c.in_ok-image.image (λ image. has_port_byte c.args.map image ≡ true → (c.debug_image.result ≡ Err (Session PortAddress))
    ⊎ ((c.debug_image.result ≡ Err Read) ⊎ (c.debug_image.result ≡ Err OutOfMemory)))
    c.in_ok-image.ensures.only (λ port. third_answer _ _ _ (c.debug_image.ensures.port port))

pub returns-clause-spared : goal.returns-clause-spared
returns-clause-spared g c =
    for_each_known _ c.in_ok-image.image (λ image. has_port_byte c.args.map image ≡ false → IfSession c.debug_image.result (λ _. ⊥))
    c.in_ok-image.ensures.only (λ none. no_session c.debug_image.result _ c.debug_image.ensures.session (λ fault p. true≢false (sym p.1 ∙ none)))
