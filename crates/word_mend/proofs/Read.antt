-- What reading a text says of the text that is mended.
use Rattle.std.proofs.Common.{◌≡◌, ◌⊎◌, ℕ, List, Option, Some, Result, Ok, Err, sym, ap, subst, ◌∙◌, inl, inr}
use Rattle.std.specs.Prelude.{IfOk, IfErr, MatchResult}
use Rattle.model.specs.Tape.{TapeDenotes, FirstFault}
use Rattle.model.specs.TapeFault.{out_of_memory}
use Rattle.model.specs.declared.tape.TapeFault.{TapeFault}
use Rattle.model.specs.declared.tape.TapeFaultKind.TheVariants.{OutOfMemory}
use Rattle.word_mend.specs.Mending.{HasRecords, IsMendedText, mended_text}
use Rattle.word_mend.proofs.Stripped.{own_records, mended_records}

abbrev Image : Type 0
Image = List (Option ℕ)

abbrev Reading : Type 0
Reading = Result Image TapeFault

abbrev ok : Image → Reading
ok image = Ok image

abbrev err : TapeFault → Reading
err fault = Err fault

-- a fault that is not that of memory is the text's own
pub own_fault : (text : List ℕ) (fault : TapeFault) → (fault.kind ≡ OutOfMemory → ⊥) → (fault ≡ out_of_memory)
    ⊎ FirstFault text fault.kind fault.offset → FirstFault text fault.kind fault.offset
own_fault text fault other (inl e) = absurd (other (ap (λ (f : TapeFault). f.kind) e))
own_fault text fault other (inr f) = f

-- a text that denotes an image is read as that image, or not at all for want of memory
pub read_or_memory : (cells image : Image) → (ok image ≡ ok cells) ⊎ (ok image ≡ err out_of_memory) → image ≡ cells
read_or_memory cells image (inl e) = cc
read_or_memory cells image (inr e) = absurd cc

pub memory_alone : (cells : Image) (fault : TapeFault) → (err fault ≡ ok cells) ⊎ (err fault ≡ err out_of_memory) → fault ≡ out_of_memory
memory_alone cells fault (inl e) = absurd cc
memory_alone cells fault (inr e) = cc

-- ---- a right text

pub right_records : {X E : Type 0} (image_of : X → Image) (r : Result X E) (text : List ℕ) (image : Image) → TapeDenotes text image
    → IfOk r (λ x. image_of x ≡ image) → IfOk r (λ x. HasRecords text (image_of x))
right_records image_of (Ok x) text image d e = own_records text (image_of x) (subst (λ (i : Image). TapeDenotes text i) (sym e) d)
right_records image_of (Err f) text image d e = tt

pub right_image : {X : Type 0} (image_of : X → Image) (r : Result X TapeFault) (image cells : Image) → image ≡ cells
    → IfOk r (λ x. image_of x ≡ image) → IfErr r (λ f. f ≡ out_of_memory)
    → MatchResult r (λ x. image_of x ≡ cells) (λ f. f ≡ out_of_memory)
right_image image_of (Ok x) image cells same e only = e ∙ same
right_image image_of (Err f) image cells same e only = only

-- ---- a mended text

pub mended_clause : {X E : Type 0} (text_of : X → List ℕ) (fault_of : X → Option TapeFault) (r : Result X E) (text : List ℕ) (fault : TapeFault)
    → FirstFault text fault.kind fault.offset
    → IfOk r (λ x. text_of x ≡ mended_text text) → IfOk r (λ x. fault_of x ≡ Some fault) → IfOk r (λ x. IsMendedText text (text_of x) (fault_of x))
mended_clause text_of fault_of (Ok x) text fault first e f = rw f (e, first)
mended_clause text_of fault_of (Err y) text fault first e f = tt

pub records_clause : {X E : Type 0} (text_of : X → List ℕ) (image_of : X → Image) (r : Result X E) (text : List ℕ)
    → IfOk r (λ x. text_of x ≡ mended_text text) → IfOk r (λ x. TapeDenotes (text_of x) (image_of x))
    → IfOk r (λ x. HasRecords text (image_of x))
records_clause text_of image_of (Ok x) text e d = mended_records text (text_of x) (image_of x) e d
records_clause text_of image_of (Err y) text e d = tt
