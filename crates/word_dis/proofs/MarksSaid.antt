-- What is done with a file of marks.
use Rattle.std.proofs.Common.{◌≡◌, ◌≢◌, ◌≤◌, ◌⊎◌, ◌∙◌, ℕ, List, Bool, Option, Err, inl, inr, subst, sym, ap, arith}
use Rattle.arguments.specs.Files.{EndsReading}
use Rattle.arguments.specs.Statuses.{status_of}
use Rattle.arguments.specs.Streams.{TellsFront}
use Rattle.arguments.specs.declared.refusal.Refusal.{Refusal}
use Rattle.arguments.specs.declared.refusal.Refusal.TheVariants as refusal
use Rattle.image_files.specs.Files.{HasNoImage}
use Rattle.marks_files.specs.Marks.{Marks}
use Rattle.word_dis.specs.Asked.{SourceAsked}
use Rattle.model.specs.declared.instruction.Profile.{Profile}
use Rattle.word_dis.specs.Told.{AreOfSome, status_of_marks}
use Rattle.word_dis.specs.Word.{AreSaid, EndsMarks, HasNamesFault, HasNoSource, IsDone, IsDoneWith, IsSaid, IsSaidWith, with_said}
use Rattle.word_dis.specs.declared.said.MarksRefusal.{MarksRefusal}
use Rattle.word_dis.specs.declared.said.MarksRefusal.TheVariants.{Fault, Refused}

abbrev Says : SourceAsked → ℕ → Type 0
Says asked status = (status ≡ 1 → HasNoSource asked) × (status ≢ 2) × (1 ≤ status) × (status ≤ 4)

-- there are no marks
pub not_marked : (asked : SourceAsked) (why : MarksRefusal) (status : ℕ) → EndsMarks asked why → status ≡ status_of_marks why → Says asked status
not_marked asked (Fault fault) status ends is = (λ one. inr (fault, ends), λ two. omega (arith, is, two), omega (arith, is), omega (arith, is))
not_marked asked (Refused refusal.OutOfMemory) status ends is =
    (λ one. absurd (omega (arith, is, one)), λ two. omega (arith, is, two), omega (arith, is), omega (arith, is))
not_marked asked (Refused (refusal.Read why)) status ends is =
    (λ one. absurd (omega (arith, is, one)), λ two. omega (arith, is, two), omega (arith, is), omega (arith, is))
not_marked asked (Refused refusal.Words) status ends is = absurd ends
not_marked asked (Refused (refusal.Map f)) status ends is = absurd ends
not_marked asked (Refused (refusal.Source f)) status ends is = absurd ends
not_marked asked (Refused (refusal.Tape f)) status ends is = absurd ends
not_marked asked (Refused (refusal.Session f)) status ends is = absurd ends
not_marked asked (Refused refusal.Write) status ends is = absurd ends
not_marked asked (Refused (refusal.WriteFile f)) status ends is = absurd ends

-- their file is not read
pub unread : (profile : Profile) (given : Marks) (why : Refusal) → EndsReading why → AreOfSome profile given (Err (Refused why))
unread profile given refusal.OutOfMemory ends = tt
unread profile given (refusal.Read why) ends = tt
unread profile given refusal.Words ends = absurd ends
unread profile given (refusal.Map f) ends = absurd ends
unread profile given (refusal.Source f) ends = absurd ends
unread profile given (refusal.Tape f) ends = absurd ends
unread profile given (refusal.Session f) ends = absurd ends
unread profile given refusal.Write ends = absurd ends
unread profile given (refusal.WriteFile f) ends = absurd ends

-- why there are none, of what is asked for
pub marks_end : (asked : SourceAsked) (why : MarksRefusal) → AreOfSome asked.profile asked.said (Err why) → EndsMarks asked why
marks_end asked (Fault fault) is = is
marks_end asked (Refused refusal.OutOfMemory) is = tt
marks_end asked (Refused (refusal.Read why)) is = tt
marks_end asked (Refused refusal.Words) is = absurd is.1
marks_end asked (Refused (refusal.Map f)) is = absurd is.1
marks_end asked (Refused (refusal.Source f)) is = absurd is.1
marks_end asked (Refused (refusal.Tape f)) is = absurd is.1
marks_end asked (Refused (refusal.Session f)) is = absurd is.1
marks_end asked (Refused refusal.Write) is = absurd is.1
marks_end asked (Refused (refusal.WriteFile f)) is = absurd is.1

-- the source was written, of what is asked for with them
pub done_with : (asked planned : SourceAsked) (held now errors told : Option (List ℕ)) → AreSaid asked.marks asked planned.said
    → planned ≡ with_said asked planned.said → IsDone planned held now errors told → IsDoneWith asked held now errors told
done_with asked planned held now errors told said same done = (planned.said, said, subst (λ (a : SourceAsked). IsDone a held now errors told) same done)

-- a beginning of it was written
pub said_with : (asked planned : SourceAsked) (held now : Option (List ℕ)) → AreSaid asked.marks asked planned.said
    → planned ≡ with_said asked planned.said → TellsFront (IsSaid planned) held now → TellsFront (IsSaidWith asked) held now
said_with asked planned held now said same tells = record {
  is_right = tells.is_right;
  said = tells.said;
  about = (planned.said, said, subst (λ (a : SourceAsked). IsSaid a tells.is_right tells.said) same tells.about);
  written = tells.written;
}

-- no source is written
pub no_source : (asked planned : SourceAsked) → planned ≡ with_said asked planned.said → HasNoImage planned.form ⊎ HasNamesFault planned.profile
    → HasNoSource asked
no_source asked planned same (inl image) = inl (inl (subst HasNoImage (ap (λ (a : SourceAsked). a.form) same) image))
no_source asked planned same (inr names) = inl (inr (subst HasNamesFault (ap (λ (a : SourceAsked). a.profile) same) names))
