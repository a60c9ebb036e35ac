-- What `info` has done, for words and by what its output held before and now. Source: mos65. No
-- clause can say which tape a file has.
use Rattle.std.specs.Prelude.{◌≡◌, ◌⊎◌, ⊤, ℕ, Bool, true, false, List, Some, None, string_bytes}
use Rattle.arguments.specs.Words.{Fits}
use Rattle.arguments.specs.declared.refusal.Refusal.{Refusal}
use Rattle.arguments.specs.declared.refusal.Refusal.TheVariants.{Map, Tape, OutOfMemory, Read}
use Rattle.clap.specs.Words.{Text}
use Rattle.model.specs.State.{is_map}
use Rattle.model.specs.declared.bus_fault.BusFault.TheVariants.{BadMap}
use Rattle.word_info.specs.Told.{IsOfCapture, IsOther, IsRightImage, IsWrongTape}
use Rattle.tape_words.specs.Asked.{InfoAsked, info_asked}
use Rattle.tape_words.specs.CommandLines.{info}
use Rattle.tape_words.specs.Files.{too_long_file}
use Rattle.tape_words.specs.declared.answer.Answer.{Answer}

-- A text can be said of some image, or of some file that is none: a tape with a fault, a capture,
-- or another.
abbrev pub IsSaid : InfoAsked → Bool → List ℕ → Type 0
IsSaid asked true said = IsRightImage asked said
IsSaid asked false said = IsWrongTape asked said ⊎ (IsOfCapture asked said ⊎ IsOther asked said)

abbrev pub IsAbout : InfoAsked → Answer → Type 0
IsAbout asked answer = IsSaid asked answer.is_right (string_bytes answer.text)

-- Why there is no answer: the port makes no map, or the file is too long.
abbrev pub EndsInfo : InfoAsked → Refusal → Type 0
EndsInfo asked (Map fault) = (fault ≡ BadMap) × (is_map None asked.port ≡ false)
EndsInfo asked (Tape fault) = fault ≡ too_long_file
EndsInfo asked OutOfMemory = ⊤
EndsInfo asked (Read why) = ⊤
EndsInfo asked refusal = ⊥

-- The words fit, each value is one that its name can have, and a fact holds of what they ask for.
abbrev pub Asks : List Text → (InfoAsked → Type 0) → Type 0
Asks words P = (asked : InfoAsked) × Fits info words × (info_asked words ≡ Some asked) × P asked
