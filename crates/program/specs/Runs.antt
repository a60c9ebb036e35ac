-- What the program does for words that are right, by what they ask for. Source: mos65.
use Rattle.std.specs.Prelude.{⊤, ◌≡◌, ◌⊎◌, ℕ, true, false, List, Option, Result, None, IfSome}
use Rattle.std.specs.Io.KnownBytes.{Appends}
use Rattle.arguments.specs.declared.refusal.Refusal.{Refusal}
use Rattle.program.specs.Asked.{AsmAsked, DebugAsked, DisAsked}
use Rattle.model.specs.Event.{start}
use Rattle.model.specs.Session.{new_session}
use Rattle.model.specs.State.{Map, is_map}
use Rattle.model.specs.Transcript.{transcript}
use Rattle.program.specs.Streams.{IsListed, IsServed, IsStatus}

-- What is known of the input and of the output, before and after.
pub record Streams : Type 0 where
  pub given : Option (List ℕ)
  pub left : Option (List ℕ)
  pub held : Option (List ℕ)
  pub now : Option (List ℕ)

-- A ROM and a port that make no map have the status 2, unless memory runs out, whatever the file and
-- the profile; if they make one, the status is another.
pub record TellsMap (rom : Option (ℕ × ℕ)) (port status : ℕ) : Type 0 where
  pub bad : is_map rom port ≡ false → (status ≡ 2) ⊎ (status ≡ 3)
  pub right : is_map rom port ≡ true → ¬ (status ≡ 2)

-- `asm` leaves the input and the output alone, however it ends.
pub record RunsAsm (a : AsmAsked) (status : ℕ) (Alone : Type 0) : Type 0 where
  pub tells : TellsMap None a.port status
  pub alone : Alone

-- `dis` leaves the input alone, and wrote the rows of some image, a beginning of them, or nothing, as
-- the status says.
abbrev pub RunsDis : DisAsked → Streams → ℕ → Type 0 → Type 0 → Type 0
RunsDis d streams status Unread Unwritten = (outcome : Result ⊤ Refusal)
    × IsStatus outcome status × Unread
    × IsListed d.profile d.first d.last streams.held streams.now outcome Unwritten

-- The map that `debug` is asked for, if its port and its ROM make one.
abbrev pub map_asked : DebugAsked → Map
map_asked d = record { profile = d.profile; rom = d.rom; port = d.port }

-- `debug` served a session, to its end or to a failure that the status says, or left both streams
-- alone.
pub record RunsDebug (d : DebugAsked) (streams : Streams) (status : ℕ) (Alone : Type 0) : Type 0 where
  pub tells : TellsMap d.rom d.port status
  pub serves : (outcome : Result ⊤ Refusal) × IsStatus outcome status
      × IsServed (map_asked d) d.history streams.given streams.left streams.held streams.now outcome
      Alone
  -- If a session has ended, the output has the transcript of the input, from some image on the map
  -- of the words.
  pub ended : status ≡ 0 → (image : List (Option ℕ)) × IfSome streams.given
      (λ given. Appends streams.held streams.now
      (transcript (new_session d.history (start (map_asked d) image)) given).written)
