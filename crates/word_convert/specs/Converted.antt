-- What `convert` makes of the bytes of a file. Source: mos65.
use Rattle.std.specs.Prelude.{◌≡◌, ◌<◌, ◌≤◌, ◌⊎◌, ℕ, List, Option, Some, None}
use Rattle.arguments.specs.declared.file_names.FormName.{FormName}
use Rattle.arguments.specs.declared.file_names.FormName.TheVariants.{Bin, Hex, SRecord, Tape, Prg}
use Rattle.arguments.specs.declared.refusal.Refusal.TheVariants as refusal
use Rattle.image_files.specs.Bytes.{IsImage, IsNoImage}
use Rattle.image_files.specs.declared.refusal.ImageRefusal.{ImageRefusal}
use Rattle.image_files.specs.declared.refusal.ImageRefusal.TheVariants as image_refusal
use Rattle.image_files.specs.Union.{IsFirstClash, IsUnion}
use Rattle.image_files.specs.Written.{ReadsAs}
use Rattle.image_writer.specs.Window.{IsFirst, IsLast, IsPart}
use Rattle.word_convert.specs.Asked.{ConvertAsked}
use Rattle.word_convert.specs.Sums.{HasNoByteAt, IsSummed}
use Rattle.word_convert.specs.declared.fault.ConvertFault.{ConvertFault}
use Rattle.word_convert.specs.declared.fault.ConvertFault.TheVariants.{Clash, Refused, NoByte, NoSumByte}

-- The addresses that are written: those that are said, or from the first byte to the last. There
-- are none where none are said and the image has no byte, or where the last is below the first.
abbrev pub IsRange : Option (ℕ × ℕ) → List (Option ℕ) → ℕ → ℕ → Type 0
IsRange (Some range) image low high = (range.0 ≡ low) × (range.1 ≡ high)
IsRange None image low high = IsFirst image (Some low) × IsLast image (Some high)

abbrev pub HasNoRange : Option (ℕ × ℕ) → List (Option ℕ) → Type 0
HasNoRange (Some range) image = range.1 < range.0
HasNoRange None image = IsFirst image None

abbrev pub IsRangeOf : Option (ℕ × ℕ) → List (Option ℕ) → Option (ℕ × ℕ) → Type 0
IsRangeOf range image None = HasNoRange range image
IsRangeOf range image (Some found) = IsRange range image found.0 found.1 × (found.0 ≤ found.1)

abbrev pub out_of_memory : ImageRefusal
out_of_memory = image_refusal.Refused refusal.OutOfMemory

-- The byte that gaps are filled with. Bytes without records have none: $FF where none is said.
abbrev pub fill_for : FormName → Option ℕ → Option ℕ
fill_for to (Some fill) = Some fill
fill_for Bin None = Some 255
fill_for Prg None = Some 255
fill_for Hex None = None
fill_for SRecord None = None
fill_for Tape None = None

-- What is written for an image is read again as the part of it between two addresses, with the byte
-- that makes the sum 0 if that is asked for.
pub record IsPartWritten (asked : ConvertAsked) (image : List (Option ℕ)) (low high : ℕ)
    (out : List ℕ) : Type 0 where
  pub part : List (Option ℕ)
  pub is_part : IsPart low high (fill_for asked.to asked.fill) image part
  pub summed : List (Option ℕ)
  pub is_summed : IsSummed asked.sum part summed
  pub reads : ReadsAs asked.to low high summed out

-- The part has no byte at the address that is asked for, where one would make the sum 0.
pub record LacksSumByte (asked : ConvertAsked) (image : List (Option ℕ)) (low high : ℕ)
    : Type 0 where
  pub part : List (Option ℕ)
  pub is_part : IsPart low high (fill_for asked.to asked.fill) image part
  pub none : HasNoByteAt asked.sum part

abbrev pub IsPartNotWritten : ConvertAsked → List (Option ℕ) → ℕ → ℕ → ConvertFault → Type 0
IsPartNotWritten asked image low high NoByte = ⊥
IsPartNotWritten asked image low high NoSumByte = LacksSumByte asked image low high
IsPartNotWritten asked image low high (Refused why) = why ≡ out_of_memory
IsPartNotWritten asked image low high (Clash address) = ⊥

-- The same for the addresses that are asked for.
pub record IsWritten (asked : ConvertAsked) (image : List (Option ℕ)) (out : List ℕ) : Type 0 where
  pub low : ℕ
  pub high : ℕ
  pub range : IsRange asked.range image low high
  pub written : IsPartWritten asked image low high out

-- The same for the addresses that are asked for.
pub record HasNoSumByte (asked : ConvertAsked) (image : List (Option ℕ)) : Type 0 where
  pub low : ℕ
  pub high : ℕ
  pub range : IsRange asked.range image low high
  pub lacks : LacksSumByte asked image low high

abbrev pub IsNotWritten : ConvertAsked → List (Option ℕ) → ConvertFault → Type 0
IsNotWritten asked image NoByte = HasNoRange asked.range image
IsNotWritten asked image NoSumByte = HasNoSumByte asked image
IsNotWritten asked image (Refused why) = why ≡ out_of_memory
IsNotWritten asked image (Clash address) = ⊥

-- The bytes denote an image, of which this is written.
pub record IsConverted (asked : ConvertAsked) (bytes out : List ℕ) : Type 0 where
  pub image : List (Option ℕ)
  pub denotes : IsImage asked.from bytes image
  pub written : IsWritten asked image out

-- The bytes denote an image that nothing is written for.
pub record HasNoByte (asked : ConvertAsked) (bytes : List ℕ) : Type 0 where
  pub image : List (Option ℕ)
  pub denotes : IsImage asked.from bytes image
  pub none : HasNoRange asked.range image

-- They denote an image without a byte where one would make the sum 0.
pub record CannotSum (asked : ConvertAsked) (bytes : List ℕ) : Type 0 where
  pub image : List (Option ℕ)
  pub denotes : IsImage asked.from bytes image
  pub none : HasNoSumByte asked image

-- Why nothing is written for some bytes. Memory may run out at any bytes.
abbrev pub IsRefused : ConvertAsked → List ℕ → ConvertFault → Type 0
IsRefused asked bytes NoByte = HasNoByte asked bytes
IsRefused asked bytes NoSumByte = CannotSum asked bytes
IsRefused asked bytes (Refused why) = (why ≡ out_of_memory) ⊎ IsNoImage asked.from bytes why
IsRefused asked bytes (Clash address) = ⊥

-- ---- two files

-- The bytes denote an image, and of what it and another image have this is written.
pub record IsConvertedWith (asked : ConvertAsked) (bytes : List ℕ) (other : List (Option ℕ))
    (out : List ℕ) : Type 0 where
  pub one : List (Option ℕ)
  pub denotes : IsImage asked.from bytes one
  pub agrees : IsFirstClash one other None
  pub image : List (Option ℕ)
  pub whole : IsUnion one other image
  pub written : IsWritten asked image out

-- Why nothing is written: the bytes denote no image, or one that has another byte for an address, the
-- first of these; or neither image has a byte. Memory may run out at any bytes.
abbrev pub IsRefusedWith : ConvertAsked → List ℕ → List (Option ℕ) → ConvertFault → Type 0
IsRefusedWith asked bytes other NoByte = (one : List (Option ℕ)) × IsImage asked.from bytes one
    × (image : List (Option ℕ)) × IsUnion one other image × HasNoRange asked.range image
IsRefusedWith asked bytes other NoSumByte = (one : List (Option ℕ)) × IsImage asked.from bytes one
    × (image : List (Option ℕ)) × IsUnion one other image × HasNoSumByte asked image
IsRefusedWith asked bytes other (Clash address) = (one : List (Option ℕ))
    × IsImage asked.from bytes one × IsFirstClash one other (Some address)
IsRefusedWith asked bytes other (Refused why) = (why ≡ out_of_memory)
    ⊎ IsNoImage asked.from bytes why
