-- Why a file is not loaded.
use Rattle.std.proofs.Common.{◌≡◌, ◌∙◌, ℕ, Bool, true, List, Option, Some, None, ◌⊎◌, inl, inr, Result, Ok, Err, IfErr, IfOk, refl, sym, ap, subst}
use Rattle.std.specs.Result.{IsErrAnd}
use Rattle.std.specs.declared.alloc.Global.{Global}
use Rattle.std.specs.declared.vec.Vec.{Vec}
use Rattle.arguments.specs.Asked.{FileAsked, map_of}
use Rattle.arguments.specs.Refusals.{of_source, of_source_kind}
use Rattle.arguments.specs.Shown.{shown_name}
use Rattle.arguments.specs.declared.file_options.FileForm.{FileForm}
use Rattle.arguments.specs.declared.file_options.FileForm.TheVariants as form
use Rattle.arguments.specs.declared.load_fault.LoadFault.{LoadFault}
use Rattle.arguments.specs.declared.load_fault.LoadFault.TheVariants.{AtPort, Faults, LooksLikeCapture, LooksLikeHex, LooksLikeRaw, LooksLikeSRecords, LooksLikeTape, NoImage, Refused}
use Rattle.arguments.specs.declared.refusal.Refusal.{Refusal}
use Rattle.arguments.specs.declared.refusal.Refusal.TheVariants.{Map as NoMap, OutOfMemory, Read, Session, Source, Tape, Words, Write, WriteFile}
use Rattle.assembler.specs.Assembly.{AssemblyView, out_of_memory}
use Rattle.fault_notes.specs.Blocks.{IsToldText}
use Rattle.image_files.specs.declared.refusal.ImageRefusal.TheVariants as why
use Rattle.image_files.specs.Files.{EndsImage, IsOfFile}
use Rattle.image_files.specs.Looks.{EndsLooks}
use Rattle.image_files.specs.Options.{said_of}
use Rattle.image_reader.specs.declared.form.Form.{Form}
use Rattle.loading.specs.Loads.{EndsAsImage, EndsFile, EndsFileOf, EndsImageFile, EndsLoad, EndsSource, EndsSourceFile, IsImageOf, IsLoaded, IsSparedFile}
use Rattle.fault_notes.specs.Given.{told_faults_of}
use Rattle.model.specs.Source.{HasFault}
use Rattle.model.specs.State.{Map, is_map}
use Rattle.model.specs.declared.source_fault.AsmFault.{AsmFault}
use Rattle.model.specs.declared.source_fault.AsmFaultKind.{AsmFaultKind}
use Rattle.model.specs.declared.source_fault.AsmFaultKind.TheVariants as source_fault

-- ---- a source that is not assembled, by its fault

of_kind : (kind : AsmFaultKind) (f : AsmFault) → (of_source_kind kind f ≡ Source f) ⊎ (of_source_kind kind f ≡ OutOfMemory)
of_kind source_fault.OutOfMemory f = inr refl
of_kind _ f = inl refl

by_kind : (bus_map : Map) (source : List ℕ) (f : AsmFault) → HasFault bus_map source f → EndsSource bus_map (of_source f)
by_kind bus_map source f has = elim (of_kind f.kind f) [
  | inl s ↦ subst (EndsSource bus_map) (sym s) (source, has)
  | inr m ↦ subst (EndsSource bus_map) (sym m) tt
]

pub source_ends : {X : Type 0} (bus_map : Map) (source : List ℕ) (f : AsmFault) (result : Result X Refusal) → (f ≡ out_of_memory) ⊎ HasFault bus_map source f
    → IsErrAnd result (λ r. r ≡ of_source f) → IfErr result (EndsSource bus_map)
source_ends bus_map source f (Ok x) ends is = absurd is
source_ends bus_map source f (Err r) (inl memory) is = subst (EndsSource bus_map) (sym (is ∙ ap of_source memory)) tt
source_ends bus_map source f (Err r) (inr has) is = subst (EndsSource bus_map) (sym is) (by_kind bus_map source f has)

-- ---- a source whose faults are told

pub told_ends : (bus_map : Map) (file source : List ℕ) (fault : AsmFault) (text : Vec ℕ Global) (told : Option (Vec ℕ Global)) → told ≡ Some text
    → (fault ≡ out_of_memory) ⊎ HasFault bus_map source fault
    → (fault ≡ out_of_memory → told ≡ None) → IsToldText (shown_name file) source bus_map.profile (told_faults_of bus_map source) text.items
    → EndsSourceFile bus_map file (Faults fault text)
told_ends bus_map file source fault text told some (inl memory) none is = absurd (no_text (none memory))
  where
    no_text : told ≡ None → ⊥
    no_text e = cc
told_ends bus_map file source fault text told some (inr has) none is = (source, has, is)

pub in_file : (bus_map : Map) (file : List ℕ) (fault : LoadFault) → EndsSourceFile bus_map file fault → EndsFile form.Source bus_map file fault
in_file bus_map file LooksLikeTape ends = absurd ends
in_file bus_map file LooksLikeHex ends = absurd ends
in_file bus_map file LooksLikeSRecords ends = absurd ends
in_file bus_map file LooksLikeRaw ends = absurd ends
in_file bus_map file LooksLikeCapture ends = absurd ends
in_file bus_map file (NoImage place what number note) ends = absurd ends
in_file bus_map file (AtPort first last free) ends = absurd ends
in_file bus_map file (Faults fault text) ends = ends
in_file bus_map file (Refused fault) ends = ends

pub looks_end : (bus_map : Map) (file source : List ℕ) (fault : LoadFault) → EndsLooks source fault → EndsFile form.Source bus_map file fault
looks_end bus_map file source LooksLikeTape ends = (source, ends)
looks_end bus_map file source LooksLikeHex ends = (source, ends)
looks_end bus_map file source LooksLikeSRecords ends = (source, ends)
looks_end bus_map file source LooksLikeRaw ends = absurd ends
looks_end bus_map file source LooksLikeCapture ends = absurd ends
looks_end bus_map file source (NoImage place what number note) ends = absurd ends
looks_end bus_map file source (AtPort first last free) ends = absurd ends
looks_end bus_map file source (Faults fault text) ends = absurd ends
looks_end bus_map file source (Refused OutOfMemory) ends = tt
looks_end bus_map file source (Refused Words) ends = absurd ends
looks_end bus_map file source (Refused (NoMap f)) ends = absurd ends
looks_end bus_map file source (Refused (Source f)) ends = absurd ends
looks_end bus_map file source (Refused (Tape f)) ends = absurd ends
looks_end bus_map file source (Refused (Session f)) ends = absurd ends
looks_end bus_map file source (Refused (Read f)) ends = absurd ends
looks_end bus_map file source (Refused Write) ends = absurd ends
looks_end bus_map file source (Refused (WriteFile f)) ends = absurd ends

-- ---- a file that is no source

pub as_ends : (said : Option Form) (omits : Bool) (bus_map : Map) (fault : LoadFault) → EndsImageFile said fault → EndsAsImage said omits bus_map fault
as_ends said omits bus_map LooksLikeTape ends = ends
as_ends said omits bus_map LooksLikeHex ends = ends
as_ends said omits bus_map LooksLikeSRecords ends = ends
as_ends said omits bus_map LooksLikeRaw ends = ends
as_ends said omits bus_map LooksLikeCapture ends = ends
as_ends said omits bus_map (NoImage place what number note) ends = ends
as_ends said omits bus_map (Faults fault text) ends = ends
as_ends said omits bus_map (Refused refusal) ends = ends
as_ends said omits bus_map (AtPort first last free) (why.NoImage no_image, ends, is) = absurd is
as_ends said omits bus_map (AtPort first last free) (why.Refused refusal, ends, is) = absurd (no is)
  where
    no : AtPort first last free ≡ Refused refusal → ⊥
    no e = cc

memory_as_image : (said : Option Form) (omits : Bool) (bus_map : Map) (refusal : Refusal) → refusal ≡ OutOfMemory
    → EndsAsImage said omits bus_map (Refused refusal)
memory_as_image said omits bus_map refusal is = (why.Refused refusal, subst (λ r. EndsImage said (why.Refused r)) (sym is) tt, refl)

pub memory_image_residual : {X : Type 0} (said : Option Form) (omits : Bool) (bus_map : Map) (refusal : Refusal) (result : Result X LoadFault)
    → refusal ≡ OutOfMemory → IsErrAnd result (λ f. f ≡ Refused refusal) → IfErr result (EndsAsImage said omits bus_map)
memory_image_residual said omits bus_map refusal (Ok x) memory is = absurd is
memory_image_residual said omits bus_map refusal (Err fault) memory is =
    subst (EndsAsImage said omits bus_map) (sym is) (memory_as_image said omits bus_map refusal memory)

as_image : (f : FileForm) (omits : Bool) (bus_map : Map) (file : List ℕ) (fault : LoadFault) → (f ≡ form.Source → ⊥)
    → EndsAsImage (said_of f) omits bus_map fault → EndsFileOf f omits bus_map file fault
as_image form.Source omits bus_map file fault apart ends = absurd (apart refl)
as_image form.Records omits bus_map file fault apart ends = ends
as_image (form.Raw address) omits bus_map file fault apart ends = ends
as_image form.Prg omits bus_map file fault apart ends = ends

image_as : (f : FileForm) (omits : Bool) (bus_map : Map) (fill : Option ℕ) (image : List (Option ℕ)) (held : Option AssemblyView)
    → (f ≡ form.Source → ⊥) → held ≡ None → IsSparedFile (said_of f) omits bus_map fill image → IsImageOf f omits bus_map fill image held
image_as form.Source omits bus_map fill image held apart is of_file = absurd (apart refl)
image_as form.Records omits bus_map fill image held apart is of_file = subst (IsImageOf form.Records omits bus_map fill image) (sym is) of_file
image_as (form.Raw address) omits bus_map fill image held apart is of_file = subst (IsImageOf (form.Raw address) omits bus_map fill image) (sym is) of_file
image_as form.Prg omits bus_map fill image held apart is of_file = subst (IsImageOf form.Prg omits bus_map fill image) (sym is) of_file

pub refused_as : {X : Type 0} (f : FileForm) (omits : Bool) (bus_map : Map) (file : List ℕ) (result : Result X LoadFault) → (f ≡ form.Source → ⊥)
    → IfErr result (EndsAsImage (said_of f) omits bus_map) → IfErr result (EndsFileOf f omits bus_map file)
refused_as f omits bus_map file (Ok x) apart ends = tt
refused_as f omits bus_map file (Err fault) apart ends = as_image f omits bus_map file fault apart ends

pub started_as : {X E : Type 0} (f : FileForm) (omits : Bool) (bus_map : Map) (fill : X → Option ℕ) (held : X → Option AssemblyView)
    (A B : X → List (Option ℕ) → Type 0) (result : Result X E) → (f ≡ form.Source → ⊥)
    → IfOk result (λ x. (image : List (Option ℕ)) × IsSparedFile (said_of f) omits bus_map (fill x) image × (held x ≡ None) × A x image × B x image)
    → IfOk result (λ x. (image : List (Option ℕ)) × IsImageOf f omits bus_map (fill x) image (held x) × A x image × B x image)
started_as f omits bus_map fill held A B (Ok x) apart s = (s.0, image_as f omits bus_map (fill x) s.0 (held x) apart s.2 s.1, s.3, s.4)
started_as f omits bus_map fill held A B (Err e) apart s = tt

-- ---- memory may run out for any words

memory_by : (f : FileForm) (omits : Bool) (bus_map : Map) (file : List ℕ) → EndsFileOf f omits bus_map file (Refused OutOfMemory)
memory_by form.Source omits bus_map file = tt
memory_by form.Records omits bus_map file = (why.Refused OutOfMemory, tt, refl)
memory_by (form.Raw address) omits bus_map file = (why.Refused OutOfMemory, tt, refl)
memory_by form.Prg omits bus_map file = (why.Refused OutOfMemory, tt, refl)

pub memory_ends : (asked : FileAsked) → EndsLoad asked (Refused OutOfMemory)
memory_ends asked = inr (memory_by asked.form asked.omits_fill (map_of asked) asked.file)

-- ---- an image with the names of a file

pub image_loaded : (asked : FileAsked) (fill : Option ℕ) (image : List (Option ℕ)) → is_map asked.rom asked.port ≡ true
    → (asked.form ≡ form.Source → ⊥) → IsSparedFile (said_of asked.form) asked.omits_fill (map_of asked) fill image → IsLoaded asked fill image None
image_loaded asked fill image map apart of_file = (map, image_as asked.form asked.omits_fill (map_of asked) fill image None apart refl of_file)

pub image_ends : (asked : FileAsked) (fault : LoadFault) → (asked.form ≡ form.Source → ⊥)
    → EndsAsImage (said_of asked.form) asked.omits_fill (map_of asked) fault → EndsLoad asked fault
image_ends asked fault apart ends = inr (as_image asked.form asked.omits_fill (map_of asked) asked.file fault apart ends)

pub memory_residual : {X : Type 0} (asked : FileAsked) (refusal : Refusal) (result : Result X LoadFault) → refusal ≡ OutOfMemory
    → IsErrAnd result (λ f. f ≡ Refused refusal) → IfErr result (EndsLoad asked)
memory_residual asked refusal (Ok x) memory is = absurd is
memory_residual asked refusal (Err fault) memory is = subst (EndsLoad asked) (sym (is ∙ ap Refused memory)) (memory_ends asked)
