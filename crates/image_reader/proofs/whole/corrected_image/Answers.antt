use Rattle.std.proofs.Common.{◌≡◌, ◌⊎◌, ◌∙◌, ℕ, List, Option, Ok, Err, IfErr, IfOk, subst}
use Rattle.image_reader.specs.EndRecords.{as_read}
use Rattle.image_reader.specs.Images.{IsTapeFault}
use Rattle.image_reader.specs.declared.fault.ImageFault.{ImageFault}
use Rattle.image_reader.specs.declared.fault.ImageFault.TheVariants.{OutOfMemory}
use Rattle.image_reader.proofs.EndRecords.{corrected}
use Rattle.model.specs.Tape.{TapeDenotes}
use Rattle.image_reader.proofs.whole.corrected_image.Goals as goal

pub returns-in-Ok-clause-found : goal.returns-in-Ok-clause-found
returns-in-Ok-clause-found c =
    subst (λ t. IfOk c.tape_text_image.result (TapeDenotes t)) (c.deref.ensures.value ∙ c.in-Ok.ensures ∙ corrected c.args.text.now c.requires)
    c.tape_text_image.ensures.found

pub returns-in-Ok-clause-only : goal.returns-in-Ok-clause-only
returns-in-Ok-clause-only c =
    subst (λ t. (cells : List (Option ℕ)) → TapeDenotes t cells → (c.tape_text_image.result ≡ Ok cells) ⊎ (c.tape_text_image.result ≡ Err OutOfMemory))
    (c.deref.ensures.value ∙ c.in-Ok.ensures ∙ corrected c.args.text.now c.requires) c.tape_text_image.ensures.only

pub returns-in-Ok-clause-fault : goal.returns-in-Ok-clause-fault
returns-in-Ok-clause-fault c =
    subst (λ t. IfErr c.tape_text_image.result (λ f. (f ≡ OutOfMemory) ⊎ IsTapeFault t f))
    (c.deref.ensures.value ∙ c.in-Ok.ensures ∙ corrected c.args.text.now c.requires) c.tape_text_image.ensures.fault

pub returns-in-Ok-clause-refused : goal.returns-in-Ok-clause-refused
returns-in-Ok-clause-refused c =
    subst (λ t. (fault : ImageFault) → IsTapeFault t fault → (c.tape_text_image.result ≡ Err fault) ⊎ (c.tape_text_image.result ≡ Err OutOfMemory))
    (c.deref.ensures.value ∙ c.in-Ok.ensures ∙ corrected c.args.text.now c.requires) c.tape_text_image.ensures.refused
