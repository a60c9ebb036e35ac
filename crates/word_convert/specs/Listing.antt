-- What `dis` has written of an image. Source: mos65. No clause can say what a file has.
use Rattle.std.specs.Prelude.{◌≡◌, ℕ, Bool, List, Option, Some}
use Rattle.arguments.specs.Words.{Fits}
use Rattle.clap.specs.Words.{Text}
use Rattle.word_convert.specs.ListingAsked.{DisImageAsked}
use Rattle.word_convert.specs.ListingCommandLine.{dis, words_asked}
use Rattle.image_files.specs.Files.{IsOfFile}
use Rattle.model.specs.Disassembly.{rows_in}
use Rattle.model.specs.State.{memory_of}

-- A text has the rows of the image of some file that begin between the addresses that are asked for.
pub record IsListing (asked : DisImageAsked) (is_right : Bool) (text : List ℕ) : Type 0 where
  pub image : List (Option ℕ)
  pub read : IsOfFile asked.form image
  pub rows : text ≡ rows_in asked.profile (memory_of image) asked.last asked.first 65536

-- The words fit, each value is one that its name can have, and a fact holds of what they ask for.
abbrev pub Asks : List Text → (DisImageAsked → Type 0) → Type 0
Asks words P = (asked : DisImageAsked) × Fits dis words × (words_asked words ≡ Some asked) × P asked
