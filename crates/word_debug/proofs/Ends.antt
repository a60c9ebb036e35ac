-- The exit status with `--strict`, by the plain one.
use Rattle.std.proofs.Common.{◌≡◌, ◌≤◌, inl, inr, ℕ, zero, suc, Bool, true, false, Option, Result, Ok, Err, if◌then◌else◌, refl, subst, sym, ◌∙◌, arith}
use Rattle.std.specs.Prelude.{⊤}
use Rattle.arguments.specs.Statuses.{status_of}
use Rattle.arguments.specs.declared.refusal.Refusal.{Refusal}
use Rattle.arguments.specs.declared.refusal.Refusal.TheVariants.{Words, Map, Source, Tape, Session, OutOfMemory, Read, Write, WriteFile}
use Rattle.program.specs.Runs.{TellsMap}
use Rattle.program.specs.Streams.{IsStatus}
use Rattle.word_debug.specs.Strict.{IsDone, IsStrictStatus}

at_least_one : (refusal : Refusal) → 1 ≤ status_of refusal
at_least_one Words = omega arith
at_least_one (Map fault) = omega arith
at_least_one (Source fault) = omega arith
at_least_one (Tape fault) = omega arith
at_least_one (Session fault) = omega arith
at_least_one OutOfMemory = omega arith
at_least_one (Read why) = omega arith
at_least_one Write = omega arith
at_least_one (WriteFile why) = omega arith

is_done : (fault : Bool) (result : ℕ) → result ≡ (if fault then 5 else 0) → IsDone result
is_done true result is = inr is
is_done false result is = inl is

is_above : (fault : Bool) (result : ℕ) → result ≡ (if fault then 5 else 0) → 1 ≤ result → result ≤ 4 → ⊥
is_above true result is one four = omega (arith, is, four)
is_above false result is one four = omega (arith, is, one)

pub strict_of : (outcome : Result ⊤ Refusal) (status result : ℕ) (fault : Bool) → (status ≡ 0 → result ≡ (if fault then 5 else 0))
    → (1 ≤ status → result ≡ status) → IsStatus outcome status → IsStrictStatus outcome result
strict_of (Ok done) status result fault ended failed is = is_done fault result (ended is)
strict_of (Err refusal) status result fault ended failed is = failed (omega (arith, is, at_least_one refusal)) ∙ is

pub failed_of : (status result : ℕ) (fault : Bool) → (status ≡ 0 → result ≡ (if fault then 5 else 0)) → (1 ≤ status → result ≡ status)
    → 1 ≤ result → result ≤ 4 → (1 ≤ status) × (result ≡ status)
failed_of zero result fault ended failed one four = absurd (is_above fault result (ended refl) one four)
failed_of (suc n) result fault ended failed one four = let above : 1 ≤ suc n = omega arith in (above, failed above)

pub ended_of : (status result : ℕ) → (1 ≤ status → result ≡ status) → status ≤ 4 → IsDone result → status ≡ 0
ended_of zero result failed four done = refl
ended_of (suc n) result failed four (inl is) = absurd (omega (arith, failed (omega arith), is))
ended_of (suc n) result failed four (inr is) = absurd (omega (arith, failed (omega arith), is, four))

pub not_done : (status : ℕ) → status ≡ 3 → IsDone status → ⊥
not_done status three (inl is) = omega (arith, three, is)
not_done status three (inr is) = omega (arith, three, is)

not_two : (fault : Bool) (result : ℕ) → result ≡ (if fault then 5 else 0) → result ≡ 2 → ⊥
not_two true result is two = omega (arith, is, two)
not_two false result is two = omega (arith, is, two)

-- What the plain status tells of the map, the strict one tells too.
pub tells_of : (rom : Option (ℕ × ℕ)) (port status result : ℕ) (fault : Bool) → (status ≡ 0 → result ≡ (if fault then 5 else 0))
    → (1 ≤ status → result ≡ status)
    → TellsMap rom port status → TellsMap rom port result
tells_of rom port zero result fault ended failed tells = record {
  bad = λ no. elim (tells.bad no) [ inl two ↦ absurd (omega (arith, two)) | inr three ↦ absurd (omega (arith, three)) ];
  right = λ makes two. not_two fault result (ended refl) two;
}
tells_of rom port (suc n) result fault ended failed tells = subst (TellsMap rom port) (sym (failed (omega arith))) tells
