use Rattle.std.proofs.Common.{◌∙◌, ap₂, Option}
use Rattle.lsp_messages.specs.TextChanges.{part_by}
use Rattle.lsp_messages.specs.declared.text_places.Place.{Place}
use Rattle.lsp_messages.proofs.text_changes.change_of.Goals as goal

pub returns-in-Some-pointer : goal.returns-in-Some-pointer
returns-in-Some-pointer c = rw (← c.in-Some.ensures, ← c.in-Some-pointer.ensures)
    (c.part_by.ensures ∙ ap₂ (λ (from : Option Place) (to : Option Place). part_by from to c.in-Some.text.now) c.place_at.ensures
    c.place_at-in-Some-pointer.ensures)
