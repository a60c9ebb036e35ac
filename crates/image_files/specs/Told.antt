-- What is told of a file that is no image, and with which exit status. Source: mos65.
use Rattle.std.specs.Prelude.{◌≡◌, ℕ, List, [], ◌++◌, codes, decimal, Option, Some, None}
use Rattle.arguments.specs.FaultLines.{image_line, no_image_line}
use Rattle.arguments.specs.Statuses.{status_of}
use Rattle.arguments.specs.declared.load_fault.LoadFault.{LoadFault}
use Rattle.arguments.specs.declared.load_fault.LoadFault.TheVariants as load_fault
use Rattle.image_reader.specs.RecordFault.{record_fault_name, record_fault_number}
use Rattle.image_reader.specs.declared.fault.RecordFaultKind.{RecordFaultKind}
use Rattle.image_reader.specs.declared.fault.RecordFaultKind.TheVariants as record_kind
use Rattle.image_files.specs.declared.form.OtherText.TheVariants as other
use Rattle.image_files.specs.declared.refusal.ImageRefusal.{ImageRefusal}
use Rattle.image_files.specs.declared.refusal.ImageRefusal.TheVariants as why
use Rattle.image_files.specs.declared.refusal.NoImage.{NoImage}
use Rattle.image_files.specs.declared.refusal.NoImage.TheVariants.{Record, PastEnd, NoAddress, Looks, TooLong}
use Rattle.image_files.specs.declared.wording.TheConstants.{END_MISSES, IS_HEX, IS_S_RECORDS, IS_TAPE, LINE_ENDS, LINE_GOES_ON, LOOKS_CAPTURED, LOOKS_EMPTY, LOOKS_PLAIN, LOOKS_RAW, NO_ADDRESS, NO_HEX_DIGIT, NO_RECORD_BEGINS, NO_TYPE, OTHER_COUNT, OTHER_LENGTH, OTHER_SUM, PAST_END, PAST_LAST, TOO_LONG}

-- Where a fault of a text of records is.
unfoldable pub place_of : NoImage → List ℕ
place_of (Record f) = codes "IMAGE line " ++ decimal f.line ++ codes " column "
    ++ decimal f.column ++ codes " "
place_of no_image = []

-- What is wrong.
abbrev pub what_of : NoImage → List ℕ
what_of (Record f) = record_fault_name f.kind
what_of PastEnd = PAST_END.now
what_of NoAddress = NO_ADDRESS.now
what_of (Looks other.Nothing) = LOOKS_EMPTY.now
what_of (Looks other.Bytes) = LOOKS_RAW.now
what_of (Looks other.Plain) = LOOKS_PLAIN.now
what_of (Looks other.Capture) = LOOKS_CAPTURED.now
what_of (Looks other.Tape) = IS_TAPE.now
what_of (Looks other.Hex) = IS_HEX.now
what_of (Looks other.SRecords) = IS_S_RECORDS.now
what_of TooLong = TOO_LONG.now

abbrev pub number_of : NoImage → Option ℕ
number_of (Record f) = Some (record_fault_number f.kind)
number_of no_image = None

-- What a fault of a text of records means.
abbrev pub record_note : RecordFaultKind → List ℕ
record_note record_kind.NoMark = NO_RECORD_BEGINS.now
record_note record_kind.BadHex = NO_HEX_DIGIT.now
record_note record_kind.ShortRecord = LINE_ENDS.now
record_note record_kind.LongRecord = LINE_GOES_ON.now
record_note record_kind.BadChecksum = OTHER_SUM.now
record_note record_kind.UnknownType = NO_TYPE.now
record_note record_kind.BadLength = OTHER_LENGTH.now
record_note record_kind.PastEnd = PAST_LAST.now
record_note record_kind.BadCount = OTHER_COUNT.now
record_note record_kind.NoEnd = END_MISSES.now

abbrev pub note_of : NoImage → List ℕ
note_of (Record f) = record_note f.kind
note_of no_image = []

abbrev pub no_image_text : List ℕ → NoImage → List ℕ
no_image_text file no_image = no_image_line file (place_of no_image) (what_of no_image)
    (number_of no_image) (note_of no_image)

-- The line that says why a file is no image.
unfoldable pub refusal_text : ImageRefusal → List ℕ → List ℕ
refusal_text (why.NoImage no_image) file = no_image_text file no_image
refusal_text (why.Refused refusal) file = image_line file refusal

-- 1 for what is no image; otherwise that of the refusal.
abbrev pub status_of_image : ImageRefusal → ℕ
status_of_image (why.NoImage no_image) = 1
status_of_image (why.Refused refusal) = status_of refusal

-- The same as why a file is not loaded.
abbrev pub IsUnloaded : ImageRefusal → LoadFault → Type 0
IsUnloaded (why.NoImage no_image) (load_fault.NoImage place what number note) =
    (place.items ≡ place_of no_image) × (what.now ≡ what_of no_image)
    × (number ≡ number_of no_image) × (note.now ≡ note_of no_image)
IsUnloaded (why.Refused refusal) fault = fault ≡ load_fault.Refused refusal
IsUnloaded refusal fault = ⊥
