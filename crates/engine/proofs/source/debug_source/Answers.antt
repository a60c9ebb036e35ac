use Rattle.std.proofs.Common.{refl, subst, sym}
use Rattle.model.specs.Event.{start}
use Rattle.model.specs.Session.{new_session}
use Rattle.model.specs.Source.{HasFault}
use Rattle.model.specs.Tape as tapes
use Rattle.engine.specs.Outcome.{Serves}
use Rattle.engine.proofs.Outcomes.{early_reaches, early_serves, early_source, early_tape, reaches_with}
use Rattle.engine.proofs.Refused.{not_refused, same_fault, source_memory, source_answered, source_refused, memory_no_source}
use Rattle.engine.proofs.source.debug_source.Goals as goal

pub returns-in_err-assembly-clause-faulty : goal.returns-in_err-assembly-clause-faulty
returns-in_err-assembly-clause-faulty g c fault h =
    source_answered c.from_residual.result c.in_err-assembly.field-0.0 fault c.from_residual.ensures.1
    (same_fault _ _ _ _ _ (c.in_err-assembly.ensures.faulty fault h))

pub returns-in_err-assembly-clause-right : goal.returns-in_err-assembly-clause-right
returns-in_err-assembly-clause-right g c image h =
    memory_no_source c.from_residual.result (source_memory c.from_residual.result c.in_err-assembly.field-0.0 c.from_residual.ensures.1
    (c.in_err-assembly.ensures.only image h))

pub returns-in_err-assembly-clause-refused : goal.returns-in_err-assembly-clause-refused
returns-in_err-assembly-clause-refused g c =
    source_refused c.from_residual.result c.in_err-assembly.field-0.0 (HasFault c.args.map c.args.source.now) c.from_residual.ensures.1
    c.in_err-assembly.ensures.refused

pub returns-in_err-assembly-clause-serves : goal.returns-in_err-assembly-clause-serves
returns-in_err-assembly-clause-serves g c image h =
    early_serves c.from_residual.result _ _ _ (early_source c.from_residual.result c.in_err-assembly.field-0.0 c.from_residual.ensures.1)

pub returns-in_err-assembly-clause-reaches : goal.returns-in_err-assembly-clause-reaches
returns-in_err-assembly-clause-reaches g c =
    early_reaches c.from_residual.result _ _ (early_source c.from_residual.result c.in_err-assembly.field-0.0 c.from_residual.ensures.1) (refl, refl)

pub returns-in_err-tape-clause-serves : goal.returns-in_err-tape-clause-serves
returns-in_err-tape-clause-serves g c image h =
    early_serves c.from_residual-in_err-tape.result _ _ _ (early_tape c.from_residual-in_err-tape.result c.in_err-tape.field-0.0
    c.from_residual-in_err-tape.ensures.1)

pub returns-in_err-tape-clause-reaches : goal.returns-in_err-tape-clause-reaches
returns-in_err-tape-clause-reaches g c =
    early_reaches c.from_residual-in_err-tape.result _ _ (early_tape c.from_residual-in_err-tape.result c.in_err-tape.field-0.0
    c.from_residual-in_err-tape.ensures.1) (refl, refl)

pub returns-clause-serves : goal.returns-clause-serves
returns-clause-serves g c image h =
    let own = c.in_ok-assembly.assembly.image in
    let of_image = subst (λ i. tapes.TapeDenotes c.in_ok-tape.tape.items i) c.image.ensures c.in_ok-tape.ensures.denotes in
    let tape = subst (λ t. tapes.TapeDenotes t own) (sym c.as_slice.ensures.value) of_image in
    subst (λ i. Serves (new_session c.args.history (start c.args.map i)) (g.R.Read.remaining c.args.reader.now) (g.R.Read.remaining c.debug_tape.new.reader)
    (g.W.Write.contents c.args.writer.now) (g.W.Write.contents c.debug_tape.new.writer) c.debug_tape.result)
    (c.in_ok-assembly.ensures.only image h) (c.debug_tape.ensures.serves own tape)

pub returns-clause-reaches : goal.returns-clause-reaches
returns-clause-reaches g c = reaches_with c.debug_tape.result _ _ _ (c.in_ok-assembly.assembly.image, c.in_ok-assembly.ensures.denoted)
    c.debug_tape.ensures.reaches

pub returns-clause-faulty : goal.returns-clause-faulty
returns-clause-faulty g c fault h = absurd (not_refused c.in_ok-assembly.assembly _ _ (c.in_ok-assembly.ensures.faulty fault h))
