-- What `debug` with `--strict` does on an image, by the words without `--strict`. Source: mos65. No
-- clause can say what a file has.
use Rattle.std.specs.Prelude.{◌≡◌, ◌⊎◌, ℕ, false, List, Option, None}
use Rattle.arguments.specs.Words.{AsksForHelp, Fits, Misfits}
use Rattle.clap.specs.Words.{Text}
use Rattle.image_files.specs.Files.{IsOfFile}
use Rattle.word_convert.specs.DebugAsked.{DebugImageAsked}
use Rattle.word_convert.specs.DebugCommandLine.{debug, words_asked}
use Rattle.word_convert.specs.DebugWord.{Asks, IsRefused, session_on}
use Rattle.model.specs.State.{is_map}
use Rattle.program.specs.Runs.{Streams}
use Rattle.word_debug.specs.Strict.{HasEnded, IsDone}

-- The output has the transcript of the input from the image of some file, and the status says whether
-- a reply of it tells of a fault.
pub record HasEndedOn (asked : DebugImageAsked) (streams : Streams) (status : ℕ) : Type 0 where
  pub image : List (Option ℕ)
  pub read : IsOfFile asked.form image
  pub ended : HasEnded (session_on asked image) streams status

-- What is known of a session that has come to its end, or of help that is asked for.
abbrev pub EndsOnImage : List Text → Streams → ℕ → Type 0
EndsOnImage words streams status = IsDone status → AsksForHelp debug words
    ⊎ Asks words (λ asked. HasEndedOn asked streams status)

-- What the statuses 1 and 2 say.
abbrev pub RefusesImage : List Text → ℕ → Type 0
RefusesImage words status = (status ≡ 1 → Asks words IsRefused)
    × (status ≡ 2 → Misfits debug words
    ⊎ ((Fits debug words × (words_asked words ≡ None))
    ⊎ Asks words (λ asked. is_map asked.rom asked.port ≡ false)))
