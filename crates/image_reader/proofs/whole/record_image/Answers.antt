use Rattle.std.proofs.Common.{◌∙◌, ap, sym, subst, List, ℕ, Option, Result}
use Rattle.image_reader.specs.Feeding.{Fed, end_of_feeding, fed}
use Rattle.image_reader.specs.Images.{AnswersText}
use Rattle.image_reader.specs.declared.fault.RecordFault.{RecordFault}
use Rattle.image_reader.proofs.Fed.{fed_text}
use Rattle.image_reader.proofs.whole.record_image.Goals as goal

pub returns-in-Ok : goal.returns-in-Ok
returns-in-Ok c =
    subst (λ (r : Result (List (Option ℕ)) RecordFault). AnswersText r c.of_text.result)
    (sym c.fed_whole.ensures ∙ ap (λ (s : Fed). end_of_feeding (fed s c.args.text.now)) c.in-Ok.ensures ∙ fed_text c.args.form c.args.text.now)
    c.of_text.ensures
