-- What `debug --strict` does on an image, by what `debug` does on one to a watch.
use Rattle.std.proofs.Common.{◌≡◌, ◌≤◌, ◌⊎◌, inl, inr, ℕ, Bool, List, [], ◌∷◌, Option, IfSome, drop, if◌then◌else◌, refl, subst, arith}
use Rattle.std.specs.Prelude.{map}
use Rattle.std.specs.Borrow.{Bor}
use Rattle.arguments.specs.Words.{AsksForHelp, texts}
use Rattle.clap.specs.Words.{Text}
use Rattle.word_convert.specs.DebugCommandLine.{debug}
use Rattle.word_convert.specs.DebugWord as plain
use Rattle.program.specs.Runs.{Streams}
use Rattle.word_debug.proofs.Ends.{ended_of, failed_of}
use Rattle.word_debug.proofs.Passing.{Passes, strict_served}
use Rattle.word_debug.specs.Image.{EndsOnImage, RefusesImage}
use Rattle.word_debug.specs.Strict.{IsDone}

pub ends_of : (words : List Text) (watch own : Streams) (status result : ℕ) (fault : Bool) → Passes watch.held watch.now own.held own.now fault
    → watch.given ≡ own.given
    → (status ≡ 0 → result ≡ (if fault then 5 else 0)) → (1 ≤ status → result ≡ status) → status ≤ 4
    → (status ≡ 0 → AsksForHelp debug words ⊎ plain.Asks words
    (λ asked. plain.HasEnded asked (record { given = watch.given; left = watch.left; held = watch.held; now = watch.now })))
    → EndsOnImage words own result
ends_of words watch own status result fault passes given ended failed four served = λ done.
    let zero = ended_of status result failed four done in
    elim (served zero) [
      | inl help ↦ inl help
      | inr asks ↦ inr (
        asks.0,
        asks.1,
        asks.2,
        record {
          image = asks.3.image;
          read = asks.3.read;
          ended = rw given at (strict_served (plain.session_on asks.0 asks.3.image) watch.given watch.held watch.now own.held own.now fault result
              passes (ended zero) asks.3.told);
        },
      )
    ]

pub same_ends : (words wanted : List Text) (streams : Streams) (status : ℕ) → words ≡ wanted → EndsOnImage words streams status
    → EndsOnImage wanted streams status
same_ends words wanted streams status same ends = subst (λ (w : List Text). EndsOnImage w streams status) same ends

pub same_refuses : (words wanted : List Text) (status : ℕ) → words ≡ wanted → RefusesImage words status → RefusesImage wanted status
same_refuses words wanted status same refuses = subst (λ (w : List Text). RefusesImage w status) same refuses
