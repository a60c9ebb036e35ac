use Rattle.std.proofs.Common.{◌∙◌, ap, sym, subst, List, ℕ, Option, Result}
use Rattle.image_reader.specs.Feeding.{Fed, overlaps_of_feeding, fed}
use Rattle.image_reader.specs.Images.{AnswersText}
use Rattle.image_reader.specs.declared.fault.RecordFault.{RecordFault}
use Rattle.image_reader.proofs.Fed.{fed_overlaps}
use Rattle.image_reader.proofs.whole.read_overlaps.Goals as goal

pub returns-in-Ok : goal.returns-in-Ok
returns-in-Ok c =
    subst (λ (r : Result (List (Option ℕ)) RecordFault). AnswersText r c.of_text.result)
    (sym c.fed_overlaps.ensures ∙ ap (λ (s : Fed). overlaps_of_feeding (fed s c.args.text.now)) c.in-Ok.ensures ∙ fed_overlaps c.args.form c.args.text.now)
    c.of_text.ensures
