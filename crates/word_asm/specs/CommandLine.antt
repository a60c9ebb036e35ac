-- The command line of `asm SOURCE TAPE [--listing FILE] [--symbols FILE] [--symbols-format
-- plain|vice] [--map FILE] [--port HHHH] [--profile N|C] [--bin FILE] [--hex FILE] [--srec FILE]
-- [--fill HH] [--utf8]`, as clap's definitions describe one. How words are matched with it is clap's to say.
-- Source: mos65.
use Rattle.std.specs.Prelude.{◌≡◌, ℕ, false, List, Option, Some, None, codes}
use Rattle.arguments.specs.CommandLine.{file_rule, flag_rule, option_rule, unnamed}
use Rattle.arguments.specs.Words.{Fits, value_in}
use Rattle.arguments.specs.declared.load_fault.LoadFault.{LoadFault}
use Rattle.arguments.specs.declared.load_fault.LoadFault.TheVariants.{Refused}
use Rattle.arguments.specs.declared.refusal.Refusal.TheVariants.{Map as NoMap}
use Rattle.word_asm.specs.Asked.{FilesAsked, files_asked}
use Rattle.clap.specs.Words.{App, Text, with_rule}
use Rattle.loading.specs.Loads.{EndsSourceFile}
use Rattle.model.specs.Source.{Denotes, HasFault}
use Rattle.model.specs.State.{Map, is_map}
use Rattle.model.specs.declared.bus_fault.BusFault.TheVariants.{BadMap}
use Rattle.model.specs.declared.source_fault.AsmFault.{AsmFault}

abbrev pub asm : App
asm = with_rule (with_rule (with_rule (with_rule (with_rule (with_rule (with_rule (with_rule (with_rule
    (with_rule (with_rule (with_rule (with_rule (unnamed (codes "asm")) (file_rule (codes "SOURCE"))) (file_rule (codes "TAPE")))
    (option_rule (codes "listing"))) (option_rule (codes "symbols")))
    (option_rule (codes "symbols-format"))) (option_rule (codes "map")))
    (option_rule (codes "port"))) (option_rule (codes "profile"))) (option_rule (codes "bin")))
    (option_rule (codes "hex"))) (option_rule (codes "srec"))) (option_rule (codes "fill")))
    (flag_rule (codes "utf8"))

-- What words ask for, where the values that clap finds are right.
abbrev pub words_asked : List Text → Option FilesAsked
words_asked words = files_asked (value_in asm words)

-- The map that is asked for.
abbrev pub map_asked : FilesAsked → Map
map_asked asked = record { profile = asked.asm.profile; rom = None; port = asked.asm.port }

-- The words fit, each value is one that its name can have, and a fact holds of what they ask for.
abbrev pub Asks : List Text → (FilesAsked → Type 0) → Type 0
Asks words P = (asked : FilesAsked) × Fits asm words × (words_asked words ≡ Some asked) × P asked

-- Some source denotes an image on a map, or has a fault there. No clause can say which source a file
-- has, nor what the files have that are written.
abbrev pub HasSource : Map → Type 0
HasSource bus_map = (source : List ℕ) × ((image : List (Option ℕ)) × Denotes bus_map source image)

abbrev pub HasSourceFault : Map → Type 0
HasSourceFault bus_map = (source : List ℕ) × ((fault : AsmFault) × HasFault bus_map source fault)

-- Why the texts of a file are not made: the port makes no map, or its source is not assembled.
abbrev pub EndsTexts : Map → Text → LoadFault → Type 0
EndsTexts bus_map file (Refused (NoMap fault)) = (fault ≡ BadMap)
    × (is_map bus_map.rom bus_map.port ≡ false)
EndsTexts bus_map file fault = EndsSourceFile bus_map file fault
