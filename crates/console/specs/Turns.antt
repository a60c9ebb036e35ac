-- What a turn has read and where it leads, if more of the input may come.
use Rattle.std.specs.Io.KnownBytes.{IsAtEnd}
use Rattle.std.specs.Prelude.{◌≡◌, ◌⊎◌, ℕ, Bool, true, if◌then◌else◌, List, [], ◌++◌, None, Option}
use Rattle.model.specs.Session.{Session}
use Rattle.model.specs.Transcript.{after_input}
use Rattle.console.specs.Line.{line_at}
use Rattle.console.specs.Playing.{Play, Turn, no_memo, turn_of}
use Rattle.console.specs.declared.memo.Memo.{Memo}
use Rattle.console.specs.declared.turn.Player.{Player}
use Rattle.console.specs.declared.ending.Ending.{Ending}

-- A reader that has ended gives nothing more.
abbrev pub EndsOnce : Bool → Bool → List ℕ → Type 0
EndsOnce before after told = before ≡ true → (told ≡ []) × (after ≡ true)

-- A reader that is said to have ended gives nothing more: it was said before, or it shows.
abbrev pub EndsWith : Bool → Bool → Option (List ℕ) → Option (List ℕ) → Type 0
EndsWith before after old new = after ≡ true → ((before ≡ true) × (new ≡ old)) ⊎ IsAtEnd new

-- What may still come of an input: nothing, if the reader has ended.
abbrev pub MayCome : Bool → List ℕ → Type 0
MayCome is_over rest = is_over ≡ true → rest ≡ []

-- The line that is handed in, whatever comes after it.
abbrev pub IsLine : Bool → Bool → ℕ → List ℕ → Type 0
IsLine is_asked is_over room told = (rest : List ℕ) → MayCome is_over rest
    → (if is_asked then line_at room (told ++ rest) else []) ≡ told

-- What a run knows besides its session and its input.
pub record Known : Type 0 where
  pub memo : Memo
  pub written : List Bool

-- At first no step was made.
abbrev pub first_known : List Bool → Known
first_known written = record { memo = no_memo; written = written }

abbrev pub known : Player → Known
known player = record { memo = player.memo; written = player.written }

abbrev pub play_at : Session → Known → List ℕ → Play
play_at s k input = record { session = s; input = input; memo = k.memo; written = k.written }

abbrev pub turn_to : Option Ending → Session → Known → List ℕ → Turn
turn_to ending s k input = record { ending = ending; play = play_at s k input }

-- A turn leads from one place to another, whatever comes after what was read.
abbrev pub TurnsTo : Session → Known → List ℕ → Bool → Option Ending → Session → Known → Type 0
TurnsTo s k told is_over ending t after = (rest : List ℕ) → MayCome is_over rest
    → turn_of (play_at s k (told ++ rest)) ≡ turn_to ending t after rest

-- A turn that was cut short, with `rest` left of the input: bytes of a line were handed in; or the
-- turn was made, and its output not written to its end.
abbrev pub CutTurn : Play → List ℕ → List ℕ → Session → Type 0
CutTurn p told rest t = (t ≡ after_input p.session told)
    ⊎ ((after : Known) × (turn_of p ≡ turn_to None t after rest))
