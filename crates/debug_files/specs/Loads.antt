-- What stands where in a program by the debug information of a file. No clause can say whether memory
-- is there, nor what is in a file. Source: mos65.
use Rattle.std.specs.Prelude.{◌≡◌, ℕ, List, [], map, Option, None, Some, Ok, Err}
use Rattle.arguments.specs.Files.{EndsReading}
use Rattle.arguments.specs.declared.load_fault.LoadFault.{LoadFault}
use Rattle.arguments.specs.declared.load_fault.LoadFault.TheVariants.{Refused}
use Rattle.debug_files.specs.Forms.{info_of}
use Rattle.debug_files.specs.Paths.{slashed}
use Rattle.debug_files.specs.Told.{IsToldAs}
use Rattle.debug_records.specs.Info.{Info}
use Rattle.debug_records.specs.Records.{File}
use Rattle.debug_records.specs.declared.fault.DebugError.TheVariants.{Fault}
use Rattle.debug_records.specs.declared.fault.DebugFault.{DebugFault}
use Rattle.source_map.specs.Debugged.{Program, debug_places}
use Rattle.source_map.specs.Lines.{PlacesView, SourceView}

-- The name of a file with `/` for `\`, if there is one of the number.
abbrev pub named : Option File → List ℕ
named None = []
named (Some file) = slashed file.name

abbrev pub names_in : List SourceView → List (List ℕ)
names_in sources = map (λ source. source.name) sources

-- The places of a program are those of what the text of some file says, with the files that it names.
abbrev pub AreDebugPlaces : Program → PlacesView → Type 0
AreDebugPlaces program places = (text : List ℕ) × (info : Info) × (sources : List SourceView)
    × (info_of text ≡ Ok info) × (names_in sources ≡ map named info.files)
    × (places ≡ debug_places program info sources)

-- Why a debug file is not loaded: it is not read, or its text has this fault.
abbrev pub EndsDebug : LoadFault → Type 0
EndsDebug (Refused refusal) = EndsReading refusal
EndsDebug fault = (text : List ℕ) × (why : DebugFault) × (info_of text ≡ Err why)
    × IsToldAs (Fault why) fault
