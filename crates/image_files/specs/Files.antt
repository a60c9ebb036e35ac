-- Which image a file has, and why it has none. No clause can say what is in a file, nor whether
-- memory is there. Source: mos65.
use Rattle.std.specs.Prelude.{◌≡◌, ⊤, ℕ, List, Option}
use Rattle.arguments.specs.declared.refusal.Refusal.TheVariants as refusal
use Rattle.image_reader.specs.declared.form.Form.{Form}
use Rattle.image_files.specs.Bytes.{IsImage, IsNoImage}
use Rattle.image_files.specs.Told.{status_of_image}
use Rattle.image_files.specs.declared.refusal.ImageRefusal.{ImageRefusal}
use Rattle.image_files.specs.declared.refusal.ImageRefusal.TheVariants.{NoImage, Refused}
use Rattle.image_files.specs.declared.refusal.NoImage.TheVariants.{TooLong}

-- An image is that of some bytes.
abbrev pub IsOfFile : Option Form → List (Option ℕ) → Type 0
IsOfFile said cells = (bytes : List ℕ) × IsImage said bytes cells

-- Why a file is not read: it has more than 16,777,216 bytes, it cannot be read, or memory ran out.
abbrev pub EndsBytes : ImageRefusal → Type 0
EndsBytes (NoImage TooLong) = ⊤
EndsBytes (Refused refusal.OutOfMemory) = ⊤
EndsBytes (Refused (refusal.Read why)) = ⊤
EndsBytes why = ⊥

-- Why a file has no image: it is not read, or some bytes denote none.
abbrev pub EndsImage : Option Form → ImageRefusal → Type 0
EndsImage said (NoImage TooLong) = ⊤
EndsImage said (Refused refusal.OutOfMemory) = ⊤
EndsImage said (Refused (refusal.Read why)) = ⊤
EndsImage said why = (bytes : List ℕ) × IsNoImage said bytes why

-- Some file is no image: it ends a word with the status 1.
abbrev pub HasNoImage : Option Form → Type 0
HasNoImage said = (why : ImageRefusal) × EndsImage said why × (status_of_image why ≡ 1)
