-- The rows of an image are what is told.
use Rattle.std.proofs.Common.{◌≡◌, ◌≢◌, ◌≤◌, ◌⊎◌, ℕ, List, Option, true, inl, inr, arith}
use Rattle.std.specs.Io.KnownBytes.{Appends}
use Rattle.arguments.specs.Streams.{Tells, TellsFront}
use Rattle.word_convert.specs.ListingAsked.{DisImageAsked}
use Rattle.word_convert.specs.Listing.{IsListing}
use Rattle.image_files.proofs.Ended.{ended}
use Rattle.image_files.specs.Files.{EndsImage, HasNoImage, IsOfFile}
use Rattle.image_files.specs.Told.{status_of_image}
use Rattle.image_files.specs.declared.refusal.ImageRefusal.{ImageRefusal}
use Rattle.image_reader.specs.declared.form.Form.{Form}
use Rattle.model.specs.Disassembly.{rows_in}
use Rattle.model.specs.State.{memory_of}
use Rattle.model.specs.Writers.{AppendsFront}

pub is_listing : (asked : DisImageAsked) (image : List (Option ℕ)) (text : List ℕ) → IsOfFile asked.form image
    → text ≡ rows_in asked.profile (memory_of image) asked.last asked.first 65536 → IsListing asked true text
is_listing asked image text read rows = record { image = image; read = read; rows = rows }

pub is_told : (asked : DisImageAsked) (text : List ℕ) (held now : Option (List ℕ)) → IsListing asked true text → Appends held now text
    → Tells (IsListing asked) true held now
is_told asked text held now listing written = record { said = text; about = listing; written = written }

pub is_begun : (asked : DisImageAsked) (text : List ℕ) (held now : Option (List ℕ)) → IsListing asked true text → AppendsFront held now text
    → TellsFront (IsListing asked) held now
is_begun asked text held now listing written = record { is_right = true; said = text; about = listing; written = written }

-- the status of a file that is no image
abbrev Says : Option Form → ℕ → Type 0
Says form status = (status ≡ 1 → HasNoImage form) × (status ≢ 2) × (1 ≤ status) × (status ≤ 4)

pub not_listed : (form : Option Form) (why : ImageRefusal) (status : ℕ) → EndsImage form why → status ≡ status_of_image why → Says form status
not_listed form why status ends is = elim (ended form why status ends is) [
  | inl one ↦ (λ s. one.1, λ two. omega (arith, one.0, two), omega (arith, one.0), omega (arith, one.0))
  | inr more ↦ (λ s. absurd (omega (arith, s, more.0)), λ two. omega (arith, two, more.0), omega (arith, more.0), omega (arith, more.1))
]
