-- What `debug` has done with an image. Source: mos65. No clause can say what a file has.
use Rattle.std.specs.Prelude.{⊤, ◌≡◌, ◌⊎◌, ℕ, true, List, Option, Result, Err, Some, IfSome}
use Rattle.std.specs.Io.KnownBytes.{Appends}
use Rattle.arguments.specs.Words.{Fits}
use Rattle.clap.specs.Words.{Text}
use Rattle.word_convert.specs.DebugAsked.{DebugImageAsked, map_asked}
use Rattle.word_convert.specs.DebugCommandLine.{debug, words_asked}
use Rattle.engine.specs.Outcome.{Serves}
use Rattle.engine.specs.declared.fault.EngineFault.{EngineFault}
use Rattle.image_files.specs.Files.{HasNoImage, IsOfFile}
use Rattle.model.specs.Event.{start}
use Rattle.model.specs.Session.{Session, new_session}
use Rattle.model.specs.State.{has_port_byte}
use Rattle.model.specs.Transcript.{transcript}

-- What is known of the input and of the output, before and after.
pub record Streams : Type 0 where
  pub given : Option (List ℕ)
  pub left : Option (List ℕ)
  pub held : Option (List ℕ)
  pub now : Option (List ℕ)

-- The session that starts with an image on the map that is asked for.
abbrev pub session_on : DebugImageAsked → List (Option ℕ) → Session
session_on asked image = new_session asked.history (start (map_asked asked) image)

-- A session was served, and ended so.
abbrev pub IsServedOn : Session → Streams → Result ⊤ EngineFault → Type 0
IsServedOn session streams ended
    = Serves session streams.given streams.left streams.held streams.now ended

-- The output got the transcript of the input from the image of some file.
pub record HasEnded (asked : DebugImageAsked) (streams : Streams) : Type 0 where
  pub image : List (Option ℕ)
  pub read : IsOfFile asked.form image
  pub told : IfSome streams.given (λ given. Appends streams.held streams.now
      (transcript (session_on asked image) given).written)

-- A session on the image of some file was served up to a failure.
pub record IsBroken (asked : DebugImageAsked) (streams : Streams) : Type 0 where
  pub image : List (Option ℕ)
  pub read : IsOfFile asked.form image
  pub fault : EngineFault
  pub served : IsServedOn (session_on asked image) streams (Err fault)

-- So it was, or none began, and both streams were left alone.
abbrev pub HasBegun : DebugImageAsked → Streams → Type 0 → Type 0
HasBegun asked streams Alone = IsBroken asked streams ⊎ Alone

-- Some image has bytes at the port.
abbrev pub MeetsPort : DebugImageAsked → Type 0
MeetsPort asked = (image : List (Option ℕ)) × IsOfFile asked.form image
    × (has_port_byte (map_asked asked) image ≡ true)

-- Some file is no image, or its image has bytes at the port.
abbrev pub IsRefused : DebugImageAsked → Type 0
IsRefused asked = HasNoImage asked.form ⊎ MeetsPort asked

-- The words fit, each value is one that its name can have, and a fact holds of what they ask for.
abbrev pub Asks : List Text → (DebugImageAsked → Type 0) → Type 0
Asks words P = (asked : DebugImageAsked) × Fits debug words × (words_asked words ≡ Some asked)
    × P asked
