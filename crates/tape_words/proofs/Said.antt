-- What the exit status says of an answer.
use Rattle.std.proofs.Common.{◌≡◌, ◌⊎◌, ℕ, Bool, true, false, List, Option, Result, Ok, Err, IfOk, MatchResult, inl, inr, arith, sym, ◌∙◌, if◌then◌else◌}
use Rattle.std.specs.Prelude.{string_bytes}
use Rattle.std.specs.Io.KnownBytes.{Appends}
use Rattle.arguments.specs.Statuses.{status_of}
use Rattle.arguments.specs.Streams.{Tells, TellsFront}
use Rattle.arguments.specs.declared.refusal.Refusal.{Refusal}
use Rattle.arguments.specs.declared.refusal.Refusal.TheVariants.{Words, Map, Source, Tape, Session, OutOfMemory, Read, Write, WriteFile}
use Rattle.tape_words.specs.Answers.{IsAnswered}
use Rattle.tape_words.specs.declared.answer.Answer.{Answer}
use Rattle.arguments.specs.declared.file_refusal.FileRefusal.{FileRefusal}

abbrev Says : Result Answer FileRefusal → ℕ → Option (List ℕ) → Option (List ℕ) → Type 0
Says r status held now = MatchResult r (λ a. IsAnswered a status held now) (λ f. status ≡ status_of f.refusal)

abbrev About : (Bool → List ℕ → Type 0) → Result Answer FileRefusal → Type 0
About S r = IfOk r (λ a. S a.is_right (string_bytes a.text))

right : (S : Bool → List ℕ → Type 0) (b : Bool) (said : List ℕ) (status : ℕ) (held now : Option (List ℕ)) → S b said → status ≡ (if b then 0 else 1)
    → Appends held now said → status ≡ 0 → Tells S true held now
right S true said status held now about is written zero = record { said = said; about = about; written = written }
right S false said status held now about is written zero = absurd (omega (arith, is, zero))

wrong : (S : Bool → List ℕ → Type 0) (b : Bool) (said : List ℕ) (status : ℕ) (held now : Option (List ℕ)) → S b said → status ≡ (if b then 0 else 1)
    → Appends held now said → status ≡ 1 → Tells S false held now
wrong S true said status held now about is written one = absurd (omega (arith, is, one))
wrong S false said status held now about is written one = record { said = said; about = about; written = written }

small : (b : Bool) (status : ℕ) → status ≡ (if b then 0 else 1) → (status ≡ 2) ⊎ (status ≡ 4) → ⊥
small true status is (inl two) = omega (arith, is, two)
small true status is (inr four) = omega (arith, is, four)
small false status is (inl two) = omega (arith, is, two)
small false status is (inr four) = omega (arith, is, four)

some_status : (f : Refusal) (status : ℕ) → status ≡ status_of f → status ≡ 0 → ⊥
some_status Words status is zero = omega (arith, is, zero)
some_status (Map fault) status is zero = omega (arith, is, zero)
some_status (Source fault) status is zero = omega (arith, is, zero)
some_status (Tape fault) status is zero = omega (arith, is, zero)
some_status (Session fault) status is zero = omega (arith, is, zero)
some_status OutOfMemory status is zero = omega (arith, is, zero)
some_status (Read why) status is zero = omega (arith, is, zero)
some_status Write status is zero = omega (arith, is, zero)
some_status (WriteFile why) status is zero = omega (arith, is, zero)

-- 0: the text of a right answer was written
pub said_right : (S : Bool → List ℕ → Type 0) (r : Result Answer FileRefusal) (status : ℕ) (held now : Option (List ℕ)) → About S r
    → Says r status held now → status ≡ 0 → Tells S true held now
said_right S (Ok a) status held now about (inl four) zero = absurd (omega (arith, four.0, zero))
said_right S (Ok a) status held now about (inr done) zero = right S a.is_right (string_bytes a.text) status held now about done.0 done.1 zero
said_right S (Err f) status held now about says zero = absurd (some_status f.refusal status says zero)

-- 1: the text of another answer was written, or there was none
pub said_wrong : (S : Bool → List ℕ → Type 0) (r : Result Answer FileRefusal) (status : ℕ) (held now : Option (List ℕ)) (N : Type 0) → About S r
    → Says r status held now → MatchResult r (λ a. Unit {0}) (λ f. N) → status ≡ 1
    → Tells S false held now ⊎ N
said_wrong S (Ok a) status held now N about (inl four) none one = absurd (omega (arith, four.0, one))
said_wrong S (Ok a) status held now N about (inr done) none one = inl (wrong S a.is_right (string_bytes a.text) status held now about done.0 done.1 one)
said_wrong S (Err f) status held now N about says none one = inr none

-- 4: a beginning of an answer was written, or there was none
pub said_front : (S : Bool → List ℕ → Type 0) (r : Result Answer FileRefusal) (status : ℕ) (held now : Option (List ℕ)) (N : Type 0) → About S r
    → Says r status held now → MatchResult r (λ a. Unit {0}) (λ f. N) → status ≡ 4
    → TellsFront S held now ⊎ N
said_front S (Ok a) status held now N about (inl four) none h =
    inl (record { is_right = a.is_right; said = string_bytes a.text; about = about; written = four.1 })
said_front S (Ok a) status held now N about (inr done) none h = absurd (small a.is_right status done.0 (inr h))
said_front S (Err f) status held now N about says none h = inr none

-- 2: there was no answer, for a refusal that has this status
pub said_two : (S : Bool → List ℕ → Type 0) (r : Result Answer FileRefusal) (status : ℕ) (held now : Option (List ℕ)) (E : Refusal → Type 0)
    → About S r → Says r status held now → MatchResult r (λ a. Unit {0}) (λ f. E f.refusal) → status ≡ 2
    → (f : Refusal) × E f × (status_of f ≡ 2)
said_two S (Ok a) status held now E about (inl four) ends h = absurd (omega (arith, four.0, h))
said_two S (Ok a) status held now E about (inr done) ends h = absurd (small a.is_right status done.0 (inl h))
said_two S (Err f) status held now E about says ends h = (f.refusal, ends, sym says ∙ h)
