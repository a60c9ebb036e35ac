-- What the exit status says of two tapes that were compared.
use Rattle.std.proofs.Common.{◌≡◌, ◌∙◌, ◌≤◌, ◌⊎◌, refl, ℕ, List, Option, Result, Ok, Err, IfErr, IfOk, MatchResult, inl, inr, ap, subst, arith}
use Rattle.std.proofs.lemmas.Bool.{ne_eqb}
use Rattle.std.specs.Prelude.{string_bytes}
use Rattle.arguments.specs.Statuses.{status_of}
use Rattle.arguments.specs.declared.refusal.Refusal.TheVariants.{OutOfMemory}
use Rattle.word_cmp.specs.DifferenceRows.{SideView, side_of}
use Rattle.image_files.proofs.Ended.{ended}
use Rattle.image_files.specs.Files.{EndsImage, HasNoImage, IsOfFile}
use Rattle.image_files.specs.Told.{status_of_image}
use Rattle.image_files.specs.declared.refusal.ImageRefusal.{ImageRefusal}
use Rattle.image_reader.specs.declared.form.Form.{Form}
use Rattle.word_cmp.specs.CompareWord.{IsAnswerOf, IsSaid, IsSaidOf, cmp_status}
use Rattle.tape_words.specs.Answers.{IsAnswered}
use Rattle.tape_words.specs.Asked.{CmpAsked}
use Rattle.tape_words.specs.declared.answer.Answer.{Answer}
use Rattle.arguments.specs.declared.file_refusal.FileRefusal.{FileRefusal}

pub about_of : (asked : CmpAsked) (one other : SideView) (r : Result Answer FileRefusal)
    → one ≡ side_of asked.tape one.image asked.profile → other ≡ side_of asked.other other.image asked.profile
    → IsOfFile asked.form one.image → IsOfFile asked.other_form other.image → IfOk r (IsAnswerOf asked.align one other)
    → IfOk r (λ a. IsSaid asked a.is_right (string_bytes a.text))
about_of asked one other (Ok a) e f one_is other_is about =
    let first : IsSaidOf asked.align (side_of asked.tape one.image asked.profile) other a.is_right (string_bytes a.text) =
    subst (λ (s : SideView). IsSaidOf asked.align s other a.is_right (string_bytes a.text)) e about in
    record {
      one = one.image;
      other = other.image;
      one_is = one_is;
      other_is = other_is;
      about = subst (λ (s : SideView). IsSaidOf asked.align (side_of asked.tape one.image asked.profile) s a.is_right (string_bytes a.text)) f first;
    }
about_of asked one other (Err fault) e f one_is other_is about = about

-- memory that ran out is not the status 1
pub memory : (r : Result Answer FileRefusal) (status : ℕ) (held now : Option (List ℕ)) → IfErr r (λ f. f.refusal ≡ OutOfMemory)
    → MatchResult r (λ a. IsAnswered a status held now) (λ f. status ≡ status_of f.refusal) → status ≡ 1 → MatchResult r (λ a. Unit {0}) (λ f. ⊥)
memory (Ok a) status held now ends says h = tt
memory (Err f) status held now ends says h = omega (arith, says, ap status_of ends, h)

pub the_first : {A : Type 0} → A ⊎ ⊥ → A
the_first (inl a) = a
the_first (inr never) = absurd never

-- a file that is not compared has the status 2 if it is no image
pub refused_status : (said : Option Form) (why : ImageRefusal) (status result : ℕ) → EndsImage said why → status ≡ status_of_image why
    → result ≡ cmp_status status
    → (2 ≤ result) × (result ≤ 4) × (result ≡ 2 → HasNoImage said)
refused_status said why status result ends is gives = elim (ended said why status ends is) [
  | inl one ↦ (let two : result ≡ 2 = gives ∙ ap cmp_status one.0 in (omega (arith, two), omega (arith, two), λ h. one.1))
  | inr more ↦ (let other : status ≡ 1 → ⊥ = λ e. omega (arith, e, more.0) in
      let same : result ≡ status = gives ∙ rw (ne_eqb status 1 other) refl in
      (omega (arith, same, more.0), omega (arith, same, more.1), λ h. absurd (omega (arith, h, same, more.0))))
]
