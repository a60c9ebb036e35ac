-- What is told of a file of debug information that has a fault: where, its name and its number, and
-- what it means. Source: mos65.
use Rattle.std.specs.Prelude.{◌≡◌, ℕ, List, [], ◌++◌, codes, decimal, Some}
use Rattle.arguments.specs.declared.load_fault.LoadFault.{LoadFault}
use Rattle.arguments.specs.declared.load_fault.LoadFault.TheVariants.{NoImage, Refused}
use Rattle.arguments.specs.declared.refusal.Refusal.TheVariants.{OutOfMemory}
use Rattle.debug_files.specs.declared.faults.TheConstants.{LONG_SPANS, NO_COLUMNS, NO_FORM, NO_LINE_NUMBER, NO_NUMBERS}
use Rattle.debug_records.specs.declared.fault.DebugError.{DebugError}
use Rattle.debug_records.specs.declared.fault.DebugError.TheVariants as debug
use Rattle.debug_records.specs.declared.fault.DebugFault.{DebugFault}
use Rattle.debug_records.specs.declared.fault.DebugFaultKind.{DebugFaultKind}
use Rattle.debug_records.specs.declared.fault.DebugFaultKind.TheVariants as kind

unfoldable pub place_of : DebugFault → List ℕ
place_of fault = codes "DEBUG line " ++ decimal fault.line ++ codes " column "
    ++ decimal fault.column ++ codes " "

abbrev pub name_of : DebugFaultKind → List ℕ
name_of kind.NoTab = codes "NoTab"
name_of kind.NoField = codes "NoField"
name_of kind.OpenText = codes "OpenText"
name_of kind.NameTwice = codes "NameTwice"
name_of kind.NoNumber = codes "NoNumber"
name_of kind.NoText = codes "NoText"
name_of kind.NoKind = codes "NoKind"
name_of kind.Missing = codes "Missing"
name_of kind.NoVersion = codes "NoVersion"
name_of kind.OtherVersion = codes "OtherVersion"
name_of kind.IdTwice = codes "IdTwice"
name_of kind.TooMany = codes "TooMany"
name_of kind.NoRecord = codes "NoRecord"
name_of kind.TooLarge = codes "TooLarge"
name_of kind.NoForm = codes "NoForm"
name_of kind.NoNumbers = codes "NoNumbers"
name_of kind.NoLineNumber = codes "NoLineNumber"
name_of kind.NoColumns = codes "NoColumns"
name_of kind.NoHead = codes "NoHead"
name_of kind.NoBytes = codes "NoBytes"
name_of kind.LongSpans = codes "LongSpans"

abbrev pub number_of : DebugFaultKind → ℕ
number_of kind.NoTab = 1
number_of kind.NoField = 2
number_of kind.OpenText = 3
number_of kind.NameTwice = 4
number_of kind.NoNumber = 5
number_of kind.NoText = 6
number_of kind.NoKind = 7
number_of kind.Missing = 8
number_of kind.NoVersion = 9
number_of kind.OtherVersion = 10
number_of kind.IdTwice = 11
number_of kind.TooMany = 12
number_of kind.NoRecord = 13
number_of kind.TooLarge = 14
number_of kind.NoForm = 15
number_of kind.NoNumbers = 16
number_of kind.NoLineNumber = 17
number_of kind.NoColumns = 18
number_of kind.NoHead = 19
number_of kind.NoBytes = 20
number_of kind.LongSpans = 21

-- What a fault means: a file of another kind, a listing that was made in another way, and lines
-- with too many bytes.
abbrev pub note_of : DebugFaultKind → List ℕ
note_of kind.NoForm = NO_FORM.now
note_of kind.NoNumbers = NO_NUMBERS.now
note_of kind.NoLineNumber = NO_LINE_NUMBER.now
note_of kind.NoColumns = NO_COLUMNS.now
note_of kind.NoHead = NO_COLUMNS.now
note_of kind.LongSpans = LONG_SPANS.now
note_of kind = []

-- Why a debug file is not loaded that was not read.
abbrev pub IsToldAs : DebugError → LoadFault → Type 0
IsToldAs debug.OutOfMemory fault = fault ≡ Refused OutOfMemory
IsToldAs (debug.Fault why) (NoImage place what number note) = (place.items ≡ place_of why)
    × (what.now ≡ name_of why.kind) × (number ≡ Some (number_of why.kind))
    × (note.now ≡ note_of why.kind)
IsToldAs (debug.Fault why) fault = ⊥
