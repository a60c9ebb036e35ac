-- Why the program's words are rejected.
use Rattle.std.specs.Prelude.{◌≡◌, List, None}
use Rattle.clap.specs.Words.{Text}
use Rattle.arguments.specs.Words.{Fits, IsRefusalOf}
use Rattle.arguments.specs.declared.fault.WordsFault.{WordsFault}
use Rattle.arguments.specs.declared.fault.WordsFault.TheVariants.{Wrong}
use Rattle.program.specs.Asked.{words_in}
use Rattle.program.specs.CommandLine.{mos65}

-- by clap's definition the words fit the command line
abbrev pub IsTaken : List Text → Type 0
IsTaken words = Fits mos65 words

-- by clap's definition the words ask for help, or do not fit the command line; or they fit, and a
-- value among them is wrong. Which one is never said. Memory may run out at any words
abbrev pub IsRightRefusal : List Text → WordsFault → Type 0
IsRightRefusal words (Wrong which) = ⊥
IsRightRefusal words fault = IsRefusalOf mos65 words (words_in words ≡ None) fault
