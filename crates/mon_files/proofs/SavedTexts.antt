-- The text of an image that is saved.
use Rattle.std.proofs.Common.{ℕ, List, Option, Result, Ok, Err, IfOk}
use Rattle.arguments.specs.declared.file_names.FormName.{FormName}
use Rattle.image_files.specs.Ends.{AreEnds}
use Rattle.mon_files.specs.Saved.{IsSavedAs, IsTextBetween}

pub saved_as : {X E : Type 0} (r : Result X E) (items : X → List ℕ) (form : FormName) (ends : Option (ℕ × ℕ)) (image : List (Option ℕ)) → AreEnds image ends
    → IfOk r (λ t. IsTextBetween form ends image (items t)) → IfOk r (λ t. IsSavedAs form image (items t))
saved_as (Err e) items form ends image are h = tt
saved_as (Ok t) items form ends image are h = (ends, are, h)
