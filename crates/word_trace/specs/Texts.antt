-- What the steps of a run give, one after another: what is gathered, and the text of a trace.
-- Source: mos65.
use Rattle.std.specs.Prelude.{◌≡◌, ℕ, zero, suc, if◌then◌else◌, List, [], ◌++◌, Option, None, Some}
use Rattle.std.specs.Io.KnownBytes.{Appends}
use Rattle.console.specs.Playing.{Play, Turn, is_at, turn_of}
use Rattle.console.specs.declared.ending.Ending.{Ending}
use Rattle.model.specs.State.{State}
use Rattle.model.specs.Writers.{AppendsFront}
use Rattle.word_trace.specs.Gathered.{Gathered, ahead_of, gathered, noted_here, passed, text_at_end, text_of_step}
use Rattle.word_trace.specs.declared.tracer.Tracer.{Tracer}

-- ---- each step of a run

-- What a turn makes of something, by the states before and after its step, and then the rest of the
-- run.
abbrev pub by_turn : {A : Type 0} → (State → State → A → A) → Option ℕ → State → Turn → A
    → (Play → A → A) → A
by_turn {A} each until before turn a rest = by turn.ending
  where
    by : Option Ending → A
    by (Some why) = a
    by None = if is_at until turn.play.session.current
        then each before turn.play.session.current a
        else rest turn.play (each before turn.play.session.current a)

-- What the steps of a run make of something: at most so many, up to one that leads to an address,
-- if one is given.
unfoldable pub by_steps : {A : Type 0} → (State → State → A → A) → Option ℕ → ℕ → Play → A → A
by_steps each until zero p a = a
by_steps each until (suc n) p a = by_turn each until p.session.current (turn_of p) a
    (λ q b. by_steps each until n q b)

-- ---- what the steps are

-- A step before the trace is passed over.
abbrev pub pass_step : State → State → Gathered → Gathered
pass_step before after g = passed after (ahead_of g before) g

-- What was gathered, and the text.
pub record Noted : Type 0 where
  pub gathered : Gathered
  pub text : List ℕ

-- No text yet.
abbrev pub no_text : Gathered → Noted
no_text g = record { gathered = g; text = [] }

-- What a tracer has gathered, and a text.
abbrev pub noted_in : Tracer → List ℕ → Noted
noted_in t text = record { gathered = gathered t; text = text }

-- A step of the trace is noted.
abbrev pub note_step : State → State → Noted → Noted
note_step before after n = record {
  gathered = noted_here after (ahead_of n.gathered before) n.gathered;
  text = n.text ++ text_of_step after (ahead_of n.gathered before) n.gathered;
}

-- What a turn has passed over: nothing if the run ended before its step, and otherwise its step.
abbrev pub TurnPassed : Option Ending → State → State → Gathered → Gathered → Type 0
TurnPassed (Some why) before after g h = h ≡ g
TurnPassed None before after g h = h ≡ pass_step before after g

-- What a turn has noted, so.
abbrev pub TurnNoted : Option Ending → State → State → Gathered → Gathered → List ℕ → Type 0
TurnNoted (Some why) before after g h text = (h ≡ g) × (text ≡ [])
TurnNoted None before after g h text = record { gathered = h; text = text }
    ≡ note_step before after (no_text g)

-- ---- the text

-- The text at the end: with the counts behind it, if they are asked for. They follow what was not
-- written before as if it were all.
abbrev pub EndsAs : Noted → List ℕ → Type 0
EndsAs n whole = (front : List ℕ) × (rest : List ℕ) × (n.text ≡ front ++ rest)
    × (whole ≡ front ++ text_at_end n.gathered rest)

-- The text of what was noted, which is none where no trace began.
abbrev pub IsText : Option Noted → List ℕ → Type 0
IsText None whole = whole ≡ []
IsText (Some n) whole = EndsAs n whole

-- A writer got the text of what was noted.
abbrev pub GotText : Option Noted → Option (List ℕ) → Option (List ℕ) → Type 0
GotText noted held now = (whole : List ℕ) × IsText noted whole × Appends held now whole

-- A writer got a beginning of it.
abbrev pub GotFront : Option Noted → Option (List ℕ) → Option (List ℕ) → Type 0
GotFront noted held now = (whole : List ℕ) × IsText noted whole × AppendsFront held now whole
