-- Which exit status there is where no source is written.
use Rattle.std.proofs.Common.{◌≡◌, ◌≢◌, ◌≤◌, ◌⊎◌, ◌∙◌, ℕ, Some, inl, inr, ap, sym, arith}
use Rattle.arguments.specs.Statuses.{status_of}
use Rattle.arguments.specs.declared.file_refusal.FileRefusal.{FileRefusal}
use Rattle.arguments.specs.declared.refusal.Refusal.{Refusal}
use Rattle.arguments.specs.declared.refusal.Refusal.TheVariants.{Words, Map, Source, Tape, Session, OutOfMemory, Read, Write, WriteFile}
use Rattle.word_dis.specs.Asked.{SourceAsked}
use Rattle.word_dis.specs.Word.{EndsDefined, EndsNamed, EndsSource, HasNamesFault}
use Rattle.image_files.proofs.Ended.{ended}
use Rattle.image_files.specs.Files.{HasNoImage}
use Rattle.image_files.specs.Told.{status_of_image}
use Rattle.image_files.specs.declared.refusal.ImageFileRefusal.{ImageFileRefusal}
use Rattle.image_files.specs.declared.refusal.ImageRefusal.TheVariants.{Refused}
use Rattle.model.specs.declared.instruction.Profile.{Profile}

by_names : (profile : Profile) (refusal : Refusal) (status : ℕ) → EndsDefined profile refusal → status ≡ status_of refusal
    → ((status ≡ 1) × HasNamesFault profile) ⊎ ((3 ≤ status) × (status ≤ 4))
by_names profile (Source f) status ends is = inl (is, (f, ends))
by_names profile OutOfMemory status ends is = inr (omega (arith, is), omega (arith, is))
by_names profile (Read why) status ends is = inr (omega (arith, is), omega (arith, is))
by_names profile Words status ends is = absurd ends
by_names profile (Map f) status ends is = absurd ends
by_names profile (Tape f) status ends is = absurd ends
by_names profile (Session f) status ends is = absurd ends
by_names profile Write status ends is = absurd ends
by_names profile (WriteFile f) status ends is = absurd ends

abbrev Says : SourceAsked → ℕ → Type 0
Says asked status = (status ≡ 1 → HasNoImage asked.form ⊎ HasNamesFault asked.profile) × (status ≢ 2) × (1 ≤ status) × (status ≤ 4)

pub not_written : (asked : SourceAsked) (why : ImageFileRefusal) (status : ℕ) → EndsSource asked why → status ≡ status_of_image why.why → Says asked status
not_written asked why status (inl at_tape) is = elim (ended asked.form why.why status at_tape.1 is) [
  | inl one ↦ (λ s. inl one.1, λ two. omega (arith, one.0, two), omega (arith, one.0), omega (arith, one.0))
  | inr more ↦ (λ s. absurd (omega (arith, s, more.0)), λ two. omega (arith, two, more.0), omega (arith, more.0), omega (arith, more.1))
]
not_written asked why status (inr at_names) is = elim (by_names asked.profile at_names.1.0 status at_names.1.2 (is ∙ ap status_of_image at_names.1.1)) [
  | inl one ↦ (λ s. inr one.1, λ two. omega (arith, one.0, two), omega (arith, one.0), omega (arith, one.0))
  | inr more ↦ (λ s. absurd (omega (arith, s, more.0)), λ two. omega (arith, two, more.0), omega (arith, more.0), omega (arith, more.1))
]

-- there are no names
pub names_end : (asked : SourceAsked) (refused : FileRefusal) (why : ImageFileRefusal) → why.file.now ≡ refused.file.now
    → why.why ≡ Refused refused.refusal → EndsNamed asked refused → EndsSource asked why
names_end asked refused why file is ends = inr (file ∙ ends.0, (refused.refusal, is, ends.1))
