-- What holds of a text that was written, and of what it assembles to.
use Rattle.std.proofs.Common.{◌≡◌, ℕ, Bool, List, Option, Result, Ok, Err, false}
use Rattle.std.specs.Prelude.{IfOk, IfErr}
use Rattle.assembler.specs.Assembly.{AssemblyView, IsImageOrMemory, out_of_memory}
use Rattle.model.specs.Image.{IsImage}
use Rattle.model.specs.Source.{Denotes}
use Rattle.model.specs.State.{Map, has_port_byte}
use Rattle.model.specs.declared.instruction.Profile.{Profile}
use Rattle.model.specs.declared.source_fault.AsmFault.{AsmFault}
use Rattle.law_source_forms.specs.LabelsLaw.{FlaggedSourceDenotes, LabelledSourceDenotes}
use Rattle.source_forms.specs.Labels.{flagged_source, labelled_source}
use Rattle.source_forms.specs.declared.mark.Mark.{Mark}

-- what it denotes, under each map of the profile at whose port the image has no byte
abbrev pub Means : Profile → List (Option ℕ) → List ℕ → Type 0
Means profile image text = (bus_map : Map) → bus_map.profile ≡ profile → has_port_byte bus_map image ≡ false → Denotes bus_map text image

pub text_means : (law : LabelledSourceDenotes) (profile : Profile) (image : List (Option ℕ)) (marks : List Mark) (text : List ℕ) → IsImage image
    → text ≡ labelled_source profile image marks → Means profile image text
text_means law profile image marks text is written bus_map same spared =
    let e : text ≡ labelled_source bus_map.profile image marks = rw same written in
    rw e (law bus_map image marks is spared)

pub written_means : {X E : Type 0} (items : X → List ℕ) (law : LabelledSourceDenotes) (profile : Profile) (image : List (Option ℕ))
    (marks : List Mark) (r : Result X E) → IsImage image
    → IfOk r (λ x. items x ≡ labelled_source profile image marks) → IfOk r (λ x. Means profile image (items x))
written_means items law profile image marks (Ok x) is written = text_means law profile image marks (items x) is written
written_means items law profile image marks (Err e) is written = tt

pub flagged_means : {X E : Type 0} (items : X → List ℕ) (law : FlaggedSourceDenotes) (profile : Profile) (image : List (Option ℕ)) (marks : List Mark)
    (flags : List Bool) (r : Result X E) → IsImage image
    → IfOk r (λ x. items x ≡ flagged_source profile image marks flags) → IfOk r (λ x. Means profile image (items x))
flagged_means items law profile image marks flags (Err e) is written = tt
flagged_means items law profile image marks flags (Ok x) is written =
    λ bus_map same spared. let e : items x ≡ flagged_source bus_map.profile image marks flags = rw same written in
    rw e (law bus_map image marks flags is spared)

pub same_image : (r : Result AssemblyView AsmFault) (image : List (Option ℕ)) → IsImageOrMemory r image → IfOk r (λ a. a.image ≡ image)
same_image (Ok a) image h = h
same_image (Err f) image h = tt

pub only_memory : (r : Result AssemblyView AsmFault) (image : List (Option ℕ)) → IsImageOrMemory r image → IfErr r (λ f. f ≡ out_of_memory)
only_memory (Ok a) image h = tt
only_memory (Err f) image h = h
