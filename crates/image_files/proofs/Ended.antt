-- Which exit status a file has that is no image.
use Rattle.std.proofs.Common.{◌≡◌, ◌≤◌, ◌⊎◌, ℕ, Option, inl, inr, refl, arith}
use Rattle.arguments.specs.declared.refusal.Refusal.TheVariants.{Words, Map, Source, Tape, Session, OutOfMemory, Read, Write, WriteFile}
use Rattle.image_reader.specs.declared.form.Form.{Form}
use Rattle.image_files.specs.Files.{EndsImage, HasNoImage}
use Rattle.image_files.specs.Told.{status_of_image}
use Rattle.image_files.specs.declared.refusal.ImageRefusal.{ImageRefusal}
use Rattle.image_files.specs.declared.refusal.ImageRefusal.TheVariants.{NoImage, Refused}

by_kind : (said : Option Form) (why : ImageRefusal) → EndsImage said why → (status_of_image why ≡ 1) ⊎ ((3 ≤ status_of_image why) × (status_of_image why ≤ 4))
by_kind said (NoImage no_image) ends = inl refl
by_kind said (Refused (Tape f)) ends = inl refl
by_kind said (Refused OutOfMemory) ends = inr (omega arith, omega arith)
by_kind said (Refused (Read f)) ends = inr (omega arith, omega arith)
by_kind said (Refused Words) ends = absurd ends.1
by_kind said (Refused (Map f)) ends = absurd ends.1
by_kind said (Refused (Source f)) ends = absurd ends.1
by_kind said (Refused (Session f)) ends = absurd ends.1
by_kind said (Refused Write) ends = absurd ends.1
by_kind said (Refused (WriteFile f)) ends = absurd ends.1

-- A file that is no image has the status 1; one that is not read has 3 or 4.
pub ended : (said : Option Form) (why : ImageRefusal) (status : ℕ) → EndsImage said why → status ≡ status_of_image why
    → ((status ≡ 1) × HasNoImage said) ⊎ ((3 ≤ status) × (status ≤ 4))
ended said why status ends is = elim (by_kind said why ends) [
  | inl one ↦ inl (omega (arith, is, one), (why, ends, one))
  | inr more ↦ inr (omega (arith, is, more.0), omega (arith, is, more.1))
]
