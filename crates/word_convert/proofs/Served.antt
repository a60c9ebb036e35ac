-- A session on an image.
use Rattle.std.proofs.Common.{◌≡◌, ◌≢◌, ◌≤◌, ◌⊎◌, ℕ, List, Option, Result, Ok, Err, IfErr, inl, inr, subst, arith}
use Rattle.std.specs.Prelude.{⊤}
use Rattle.word_convert.specs.DebugAsked.{DebugImageAsked, map_asked}
use Rattle.word_convert.specs.DebugWord.{HasBegun, HasEnded, IsServedOn, Streams, session_on}
use Rattle.engine.specs.Outcome.{EndsServing, Reaches, Serves}
use Rattle.engine.specs.Refusals.{IfSession, IfSource, IfTape}
use Rattle.engine.specs.declared.fault.EngineFault.{EngineFault}
use Rattle.engine.specs.declared.fault.EngineFault.TheVariants.{Source, Tape, Session, Read, Write, OutOfMemory}
use Rattle.image_files.proofs.Ended.{ended}
use Rattle.image_files.specs.Files.{EndsImage, HasNoImage, IsOfFile}
use Rattle.image_files.specs.Told.{status_of_image}
use Rattle.image_files.specs.declared.refusal.ImageRefusal.{ImageRefusal}
use Rattle.image_reader.specs.declared.form.Form.{Form}
use Rattle.model.specs.Event.{start}
use Rattle.model.specs.Session.{new_session, Session as TheSession}
use Rattle.model.specs.State.{Map}

abbrev Ends : TheSession → Streams → Type 0 → Result ⊤ EngineFault → Type 0
Ends s streams Alone r = (Reaches r (IsServedOn s streams r) Alone) × IfErr r EndsServing

-- a session on a tape that denotes an image without a byte at the port
pub on_tape : (s : TheSession) (streams : Streams) (Stood Alone : Type 0) (r : Result ⊤ EngineFault) → IsServedOn s streams r → Reaches r Stood Alone
    → IfTape r (λ f. ⊥) → IfSession r (λ f. ⊥) → IfSource r (λ f. ⊥) → Ends s streams Alone r
on_tape s streams Stood Alone (Ok u) serves reaches tape session source = (serves, tt)
on_tape s streams Stood Alone (Err (Source f)) serves reaches tape session source = absurd source
on_tape s streams Stood Alone (Err (Tape f)) serves reaches tape session source = absurd tape
on_tape s streams Stood Alone (Err (Session f)) serves reaches tape session source = absurd session
on_tape s streams Stood Alone (Err Read) serves reaches tape session source = (serves, tt)
on_tape s streams Stood Alone (Err Write) serves reaches tape session source = (serves, tt)
on_tape s streams Stood Alone (Err OutOfMemory) serves reaches tape session source = (inl serves, tt)

pub has_ended : (asked : DebugImageAsked) (image : List (Option ℕ)) (streams : Streams) → IsOfFile asked.form image
    → IsServedOn (session_on asked image) streams (Ok tt) → HasEnded asked streams
has_ended asked image streams read served = record { image = image; read = read; told = served }

broken : (asked : DebugImageAsked) (image : List (Option ℕ)) (streams : Streams) (Alone : Type 0) (fault : EngineFault) → IsOfFile asked.form image
    → IsServedOn (session_on asked image) streams (Err fault) → HasBegun asked streams Alone
broken asked image streams Alone fault read served = inl (record { image = image; read = read; fault = fault; served = served })

pub has_begun : (asked : DebugImageAsked) (image : List (Option ℕ)) (streams : Streams) (Alone : Type 0) (fault : EngineFault) → IsOfFile asked.form image
    → Reaches {X = ⊤} (Err fault) (IsServedOn (session_on asked image) streams (Err fault)) Alone → EndsServing fault → HasBegun asked streams Alone
has_begun asked image streams Alone Read read reaches ends = broken asked image streams Alone Read read reaches
has_begun asked image streams Alone Write read reaches ends = broken asked image streams Alone Write read reaches
has_begun asked image streams Alone OutOfMemory read (inl served) ends = broken asked image streams Alone OutOfMemory read served
has_begun asked image streams Alone OutOfMemory read (inr alone) ends = inr alone
has_begun asked image streams Alone (Source f) read reaches ends = absurd ends
has_begun asked image streams Alone (Tape f) read reaches ends = absurd ends
has_begun asked image streams Alone (Session f) read reaches ends = absurd ends

-- the same on the map that is asked for
pub has_begun_on : (asked : DebugImageAsked) (map : Map) (image : List (Option ℕ)) (streams : Streams) (Alone : Type 0) (fault : EngineFault)
    → map ≡ map_asked asked → IsOfFile asked.form image
    → Reaches {X = ⊤} (Err fault) (IsServedOn (new_session asked.history (start map image)) streams (Err fault)) Alone → EndsServing fault
    → HasBegun asked streams Alone
has_begun_on asked map image streams Alone fault is read reaches ends =
    has_begun asked image streams Alone fault read (subst (λ (m : Map).
    Reaches {X = ⊤} (Err fault) (IsServedOn (new_session asked.history (start m image)) streams (Err fault)) Alone) is reaches) ends

-- the status of a file that is no image
abbrev Says : Option Form → ℕ → Type 0
Says form status = (status ≡ 1 → HasNoImage form) × (status ≢ 2) × (1 ≤ status) × (status ≤ 4)

pub not_read : (form : Option Form) (why : ImageRefusal) (status : ℕ) → EndsImage form why → status ≡ status_of_image why → Says form status
not_read form why status ends is = elim (ended form why status ends is) [
  | inl one ↦ (λ s. one.1, λ two. omega (arith, one.0, two), omega (arith, one.0), omega (arith, one.0))
  | inr more ↦ (λ s. absurd (omega (arith, s, more.0)), λ two. omega (arith, two, more.0), omega (arith, more.0), omega (arith, more.1))
]
