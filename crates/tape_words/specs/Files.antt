-- Why the text of a tape is not read. Source: mos65.
use Rattle.std.specs.Prelude.{◌≡◌, ⊤}
use Rattle.arguments.specs.declared.refusal.Refusal.{Refusal}
use Rattle.arguments.specs.declared.refusal.Refusal.TheVariants.{Tape, OutOfMemory, Read}
use Rattle.model.specs.declared.tape.TapeFault.{TapeFault}
use Rattle.model.specs.declared.tape.TapeFaultKind.TheVariants as kind

-- A file that is read whole has at most 16,777,216 bytes.
abbrev pub too_long_file : TapeFault
too_long_file = record { offset = 16777216; kind = kind.TooLong }

-- The file is too long. No clause can say whether memory is there, or a file can be read.
abbrev pub EndsReadingText : Refusal → Type 0
EndsReadingText (Tape fault) = fault ≡ too_long_file
EndsReadingText OutOfMemory = ⊤
EndsReadingText (Read why) = ⊤
EndsReadingText fault = ⊥
