-- From what the parts of a conversion say to what the whole does.
use Rattle.std.proofs.Common.{◌≡◌, ◌≤◌, ◌⊎◌, ℕ, List, Option, None, Result, Ok, Err, IfOk, IfErr, subst, sym, inl, inr, arith}
use Rattle.arguments.specs.Files.{EndsWriting}
use Rattle.arguments.specs.declared.refusal.Refusal.{Refusal}
use Rattle.arguments.specs.declared.refusal.Refusal.TheVariants.{Words, Map as NoMap, Source, Tape, Session, OutOfMemory, Read, Write, WriteFile}
use Rattle.image_files.specs.Bytes.{IsImage, IsNoImage}
use Rattle.image_files.specs.Files.{EndsBytes, EndsImage}
use Rattle.image_files.specs.declared.refusal.ImageRefusal.{ImageRefusal}
use Rattle.image_files.specs.declared.refusal.ImageRefusal.TheVariants as why
use Rattle.image_files.specs.Union.{IsFirstClash, IsUnion}
use Rattle.image_reader.specs.declared.form.Form.{Form}
use Rattle.word_convert.specs.Asked.{ConvertAsked}
use Rattle.word_convert.specs.Converted.{IsConverted, IsConvertedWith, IsNotWritten, IsPartNotWritten, IsRange, IsRefused, IsRefusedWith, IsWritten}
use Rattle.word_convert.specs.Statuses.{EndsConvert, status_of}
use Rattle.word_convert.specs.declared.fault.ConvertFault.{ConvertFault}
use Rattle.word_convert.specs.declared.fault.ConvertFault.TheVariants.{Clash, Refused, NoByte, NoSumByte}

abbrev Cells : Type 0
Cells = List (Option ℕ)

-- why a part is not written, as why nothing is written for the addresses that are asked for
pub not_written : (asked : ConvertAsked) (image : Cells) (low high : ℕ) (fault : ConvertFault) → IsRange asked.range image low high
    → IsPartNotWritten asked image low high fault → IsNotWritten asked image fault
not_written asked image low high NoByte range h = absurd h
not_written asked image low high NoSumByte range h = record { low = low; high = high; range = range; lacks = h }
not_written asked image low high (Refused why) range h = h
not_written asked image low high (Clash address) range h = absurd h

pub converted_as : {X E : Type 0} (r : Result X E) (items : X → List ℕ) (asked : ConvertAsked) (bytes : List ℕ) (image : Cells) → IsImage asked.from bytes image
    → IfOk r (λ out. IsWritten asked image (items out)) → IfOk r (λ out. IsConverted asked bytes (items out))
converted_as (Err e) items asked bytes image denotes h = tt
converted_as (Ok out) items asked bytes image denotes h = record { image = image; denotes = denotes; written = h }

pub refused_as : {X : Type 0} (r : Result X ConvertFault) (asked : ConvertAsked) (bytes : List ℕ) (image : Cells) → IsImage asked.from bytes image
    → IfErr r (IsNotWritten asked image) → IfErr r (IsRefused asked bytes)
refused_as (Ok out) asked bytes image denotes h = tt
refused_as (Err NoByte) asked bytes image denotes h = record { image = image; denotes = denotes; none = h }
refused_as (Err NoSumByte) asked bytes image denotes h = record { image = image; denotes = denotes; none = h }
refused_as (Err (Refused why)) asked bytes image denotes h = inl h
refused_as (Err (Clash address)) asked bytes image denotes h = absurd h

pub joined_as : {X E : Type 0} (r : Result X E) (items : X → List ℕ) (asked : ConvertAsked) (bytes : List ℕ) (one other image : Cells)
    → IsImage asked.from bytes one
    → IsFirstClash one other None → IsUnion one other image
    → IfOk r (λ out. IsWritten asked image (items out)) → IfOk r (λ out. IsConvertedWith asked bytes other (items out))
joined_as (Err e) items asked bytes one other image denotes agrees whole h = tt
joined_as (Ok out) items asked bytes one other image denotes agrees whole h =
    record { one = one; denotes = denotes; agrees = agrees; image = image; whole = whole; written = h }

pub unjoined_as : {X : Type 0} (r : Result X ConvertFault) (asked : ConvertAsked) (bytes : List ℕ) (one other image : Cells)
    → IsImage asked.from bytes one → IsUnion one other image
    → IfErr r (IsNotWritten asked image) → IfErr r (IsRefusedWith asked bytes other)
unjoined_as (Ok out) asked bytes one other image denotes whole h = tt
unjoined_as (Err NoByte) asked bytes one other image denotes whole h = (one, denotes, image, whole, h)
unjoined_as (Err NoSumByte) asked bytes one other image denotes whole h = (one, denotes, image, whole, h)
unjoined_as (Err (Refused why)) asked bytes one other image denotes whole h = inl h
unjoined_as (Err (Clash address)) asked bytes one other image denotes whole h = absurd h

-- ---- why a file is not converted

pub bytes_end : (w : ImageRefusal) → EndsBytes w → EndsConvert (Refused w)
bytes_end (why.NoImage no_image) ends = tt
bytes_end (why.Refused OutOfMemory) ends = tt
bytes_end (why.Refused (Read fault)) ends = tt
bytes_end (why.Refused Words) ends = absurd ends
bytes_end (why.Refused (NoMap fault)) ends = absurd ends
bytes_end (why.Refused (Source fault)) ends = absurd ends
bytes_end (why.Refused (Tape fault)) ends = absurd ends
bytes_end (why.Refused (Session fault)) ends = absurd ends
bytes_end (why.Refused Write) ends = absurd ends
bytes_end (why.Refused (WriteFile fault)) ends = absurd ends

pub writing_ends : (refusal : Refusal) → EndsWriting refusal → EndsConvert (Refused (why.Refused refusal))
writing_ends OutOfMemory ends = tt
writing_ends Write ends = tt
writing_ends (WriteFile fault) ends = tt
writing_ends Words ends = absurd ends
writing_ends (NoMap fault) ends = absurd ends
writing_ends (Source fault) ends = absurd ends
writing_ends (Tape fault) ends = absurd ends
writing_ends (Session fault) ends = absurd ends
writing_ends (Read fault) ends = absurd ends

no_image_ends : (asked : ConvertAsked) (bytes : List ℕ) (w : ImageRefusal) → IsNoImage asked.from bytes w → EndsConvert (Refused w)
no_image_ends asked bytes (why.NoImage no_image) is = tt
no_image_ends asked bytes (why.Refused (Tape fault)) is = tt
no_image_ends asked bytes (why.Refused OutOfMemory) is = tt
no_image_ends asked bytes (why.Refused (Read fault)) is = tt
no_image_ends asked bytes (why.Refused Write) is = tt
no_image_ends asked bytes (why.Refused (WriteFile fault)) is = tt
no_image_ends asked bytes (why.Refused Words) is = absurd is
no_image_ends asked bytes (why.Refused (NoMap fault)) is = absurd is
no_image_ends asked bytes (why.Refused (Source fault)) is = absurd is
no_image_ends asked bytes (why.Refused (Session fault)) is = absurd is

pub refused_ends : (asked : ConvertAsked) (bytes : List ℕ) (fault : ConvertFault) → IsRefused asked bytes fault → EndsConvert fault
refused_ends asked bytes NoByte is = tt
refused_ends asked bytes NoSumByte is = tt
refused_ends asked bytes (Clash address) is = tt
refused_ends asked bytes (Refused w) (inl memory) = subst (λ (x : ImageRefusal). EndsConvert (Refused x)) (sym memory) tt
refused_ends asked bytes (Refused w) (inr is) = no_image_ends asked bytes w is

pub refused_with_ends : (asked : ConvertAsked) (bytes : List ℕ) (other : Cells) (fault : ConvertFault) → IsRefusedWith asked bytes other fault
    → EndsConvert fault
refused_with_ends asked bytes other NoByte is = tt
refused_with_ends asked bytes other NoSumByte is = tt
refused_with_ends asked bytes other (Clash address) is = tt
refused_with_ends asked bytes other (Refused w) (inl memory) = subst (λ (x : ImageRefusal). EndsConvert (Refused x)) (sym memory) tt
refused_with_ends asked bytes other (Refused w) (inr is) = no_image_ends asked bytes w is

-- a file that is no image
pub image_ends : (said : Option Form) (w : ImageRefusal) → EndsImage said w → EndsConvert (Refused w)
image_ends said (why.NoImage no_image) ends = tt
image_ends said (why.Refused OutOfMemory) ends = tt
image_ends said (why.Refused (Read fault)) ends = tt
image_ends said (why.Refused (Tape fault)) ends = tt
image_ends said (why.Refused Words) ends = absurd ends.1
image_ends said (why.Refused (NoMap fault)) ends = absurd ends.1
image_ends said (why.Refused (Source fault)) ends = absurd ends.1
image_ends said (why.Refused (Session fault)) ends = absurd ends.1
image_ends said (why.Refused Write) ends = absurd ends.1
image_ends said (why.Refused (WriteFile fault)) ends = absurd ends.1

-- ---- statuses

abbrev Bounded : ℕ → Type 0
Bounded status = (1 ≤ status) × (status ≤ 4) × (status ≡ 2 → ⊥)

one : Bounded 1
one = (omega arith, omega arith, λ e. omega (arith, e))

three : Bounded 3
three = (omega arith, omega arith, λ e. omega (arith, e))

four : Bounded 4
four = (omega arith, omega arith, λ e. omega (arith, e))

pub bounded : (fault : ConvertFault) → EndsConvert fault → Bounded (status_of fault)
bounded NoByte ends = one
bounded NoSumByte ends = one
bounded (Clash address) ends = one
bounded (Refused (why.NoImage no_image)) ends = one
bounded (Refused (why.Refused (Tape fault))) ends = one
bounded (Refused (why.Refused OutOfMemory)) ends = three
bounded (Refused (why.Refused (Read fault))) ends = four
bounded (Refused (why.Refused Write)) ends = four
bounded (Refused (why.Refused (WriteFile fault))) ends = four
bounded (Refused (why.Refused Words)) ends = absurd ends
bounded (Refused (why.Refused (NoMap fault))) ends = absurd ends
bounded (Refused (why.Refused (Source fault))) ends = absurd ends
bounded (Refused (why.Refused (Session fault))) ends = absurd ends
