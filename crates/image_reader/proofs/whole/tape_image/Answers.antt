use Rattle.std.proofs.Common.{◌≡◌, ◌⊎◌, ℕ, List, Option, Ok, Err, subst, sym, ◌∙◌}
use Rattle.image_reader.specs.declared.fault.ImageFault.TheVariants.{OutOfMemory}
use Rattle.image_reader.proofs.EndRecords.{unchanged}
use Rattle.model.specs.Tape.{TapeDenotes}
use Rattle.image_reader.proofs.whole.tape_image.Goals as goal

pub returns-else-has_count_twice-clause-only : goal.returns-else-has_count_twice-clause-only
returns-else-has_count_twice-clause-only c =
    subst (λ t. (cells : List (Option ℕ)) → TapeDenotes t cells → (c.tape_text_image.result ≡ Ok cells) ⊎ (c.tape_text_image.result ≡ Err OutOfMemory))
    (unchanged c.args.text.now (sym c.has_count_twice.ensures ∙ c.if-has_count_twice.false)) c.tape_text_image.ensures.only
