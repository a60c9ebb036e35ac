-- The fault lines of the program. Source: mos65.
use Rattle.std.specs.Prelude.{◌≡◌, ◌≤◌, ⊤, ℕ, List, [], ◌∷◌, ◌++◌, codes, decimal, Option, Some, None}
use Rattle.arguments.specs.Shown.{shown_name}
use Rattle.arguments.specs.Statuses.{status_of}
use Rattle.arguments.specs.declared.fault.WordsFault.{WordsFault}
use Rattle.arguments.specs.declared.fault.WordsFault.TheVariants.{Help, Usage, Value, Wrong}
use Rattle.arguments.specs.declared.fault.WordsFault.TheVariants as words_fault
use Rattle.arguments.specs.declared.load_fault.LoadFault.{LoadFault}
use Rattle.arguments.specs.declared.load_fault.LoadFault.TheVariants.{AtPort, Faults, LooksLikeCapture, LooksLikeHex, LooksLikeRaw, LooksLikeSRecords, LooksLikeTape, NoImage, Refused}
use Rattle.arguments.specs.declared.refusal.ReadFault.TheVariants.{Folder, NoName, NoSuchFile, PermissionDenied as permission_denied}
use Rattle.arguments.specs.declared.refusal.Refusal.{Refusal}
use Rattle.arguments.specs.declared.refusal.Refusal.TheVariants.{Words, Map, Source, Tape, Session, OutOfMemory, Read, Write, WriteFile}
use Rattle.arguments.specs.declared.write_fault.WriteFault.{WriteFault}
use Rattle.arguments.specs.declared.write_fault.WriteFault.TheVariants.{IsFolder, NoRoom, NoSuchFolder, OtherFile, SameFile}
use Rattle.arguments.specs.declared.write_fault.WriteFault.TheVariants as write_fault
use Rattle.arguments.specs.declared.wording.TheConstants.{AT_PORT, INFO_SAYS_MORE, IS_FOLDER, IS_FREE, LIKE_CAPTURE, LIKE_HEX, LIKE_RAW, LIKE_S_RECORDS, LIKE_TAPE, MEND_LEAVES_OUT, NONE_IS_FREE, NO_DIGIT, NO_NAME, NO_ROOM, NO_SUCH_FILE, NO_SUCH_FOLDER, OTHER_FILE, PERMISSION_DENIED, SAME_FILE, SOURCE_LIKE_TAPE, TRY_PORT, USE_ADDRESS, USE_MEND, USE_TAPE}
use Rattle.model.specs.FaultTexts.{bus_fault_text, session_fault_text, source_fault_text, tape_fault_text}
use Rattle.model.specs.Listing.{address_text}
use Rattle.model.specs.Text.{hex_address}
use Rattle.model.specs.Writers.{AppendsFront}
use Rattle.model.specs.declared.source_fault.AsmFault.{AsmFault}
use Rattle.model.specs.declared.tape.TapeFault.{TapeFault}
use Rattle.model.specs.declared.tape.TapeFaultKind.{TapeFaultKind}
use Rattle.model.specs.declared.tape.TapeFaultKind.TheVariants.{BadHex, JunkAfterEnd, JunkBetween}

-- The parts of a line, one after another.
abbrev pub joined : List (List ℕ) → List ℕ
joined [] = []
joined (part ∷ []) = part
joined (part ∷ next ∷ parts) = part ++ joined (next ∷ parts)

-- What is rejected, and where the fault is in it.
unfoldable pub place_part : Refusal → List ℕ
place_part Words = codes "WORDS"
place_part (Map fault) = codes "MAP "
place_part (Source fault) = codes "SOURCE line " ++ decimal fault.line ++ 32 ∷ []
place_part (Tape fault) = codes "TAPE byte " ++ decimal fault.offset ++ 32 ∷ []
place_part (Session fault) = codes "TAPE "
place_part OutOfMemory = codes "OutOfMemory"
place_part (Read fault) = codes "READ"
place_part Write = codes "WRITE"
place_part (WriteFile fault) = codes "WRITE"

-- The fault's name and number, if it has them.
unfoldable pub name_part : Refusal → List ℕ
name_part (Map fault) = bus_fault_text fault
name_part (Source fault) = source_fault_text fault.kind
name_part (Tape fault) = tape_fault_text fault.kind
name_part (Session fault) = session_fault_text fault
name_part refusal = []

-- The line that says why the program ends, for example `mos65: SOURCE line 2 Syntax 4`.
abbrev pub fault_line : Refusal → List ℕ
fault_line refusal = codes "mos65: " ++ place_part refusal ++ name_part refusal ++ 10 ∷ []

-- Why a file is not written, where that is known.
abbrev pub write_reason : WriteFault → List ℕ
write_reason NoRoom = NO_ROOM.now
write_reason write_fault.PermissionDenied = PERMISSION_DENIED.now
write_reason IsFolder = IS_FOLDER.now
write_reason NoSuchFolder = NO_SUCH_FOLDER.now
write_reason SameFile = SAME_FILE.now
write_reason write_fault.LooksLikeTape = SOURCE_LIKE_TAPE.now
write_reason OtherFile = OTHER_FILE.now
write_reason write_fault.Other = []

-- Why a file cannot be read or is not written, where that is known.
unfoldable pub reason_part : Refusal → List ℕ
reason_part (Read NoSuchFile) = NO_SUCH_FILE.now
reason_part (Read permission_denied) = PERMISSION_DENIED.now
reason_part (Read Folder) = IS_FOLDER.now
reason_part (Read NoName) = NO_NAME.now
reason_part (WriteFile fault) = write_reason fault
reason_part refusal = []

-- A line that begins with the name of a file.
abbrev pub line_of : List ℕ → List ℕ → List ℕ
line_of file rest = codes "mos65: " ++ (shown_name file ++ rest)

-- The same with the file's name, for example `mos65: first.tape: TAPE byte 2 Truncated 5`, and with
-- the reason, as `mos65: first.a65: READ no such file`.
abbrev pub named_line : List ℕ → Refusal → List ℕ
named_line file refusal = line_of file (codes ": " ++ (place_part refusal ++ (reason_part refusal
    ++ (name_part refusal ++ 10 ∷ []))))

-- The fault of a line has its number behind the file's name, as `mos65: names.a65:2: Syntax 4`.
abbrev pub source_line : List ℕ → AsmFault → List ℕ
source_line file fault = line_of file (codes ":" ++ (decimal fault.line ++ (codes ": "
    ++ (name_part (Source fault) ++ 10 ∷ []))))

-- Words, a map and memory are of no file.
unfoldable pub file_line : List ℕ → Refusal → List ℕ
file_line file Words = fault_line Words
file_line file (Map fault) = fault_line (Map fault)
file_line file OutOfMemory = fault_line OutOfMemory
file_line file (Source fault) = source_line file fault
file_line file refusal = named_line file refusal

-- What a file looks like that is given as a source, and what to do.
abbrev pub like_line : List ℕ → List ℕ → List ℕ → List ℕ
like_line like file advice = line_of file (like ++ advice)

-- The number of what is wrong, if it has one.
unfoldable pub number_part : Option ℕ → List ℕ
number_part None = []
number_part (Some number) = codes " " ++ decimal number

-- A file is no image: where that shows, what is wrong, its number, and what that means.
abbrev pub no_image_line : List ℕ → List ℕ → List ℕ → Option ℕ → List ℕ → List ℕ
no_image_line file place what number note = line_of file (codes ": " ++ (place ++ (what
    ++ (number_part number ++ (note ++ codes "\n")))))

-- What a fault of a tape means for whoever has its file.
abbrev pub tape_note : TapeFaultKind → List ℕ
tape_note BadHex = NO_DIGIT.now
tape_note JunkAfterEnd = MEND_LEAVES_OUT.now
tape_note JunkBetween = MEND_LEAVES_OUT.now
tape_note kind = INFO_SAYS_MORE.now

-- A file is a tape with a fault.
abbrev pub tape_line : List ℕ → TapeFault → List ℕ
tape_line file fault = line_of file (codes ": " ++ (place_part (Tape fault)
    ++ (tape_fault_text fault.kind ++ (tape_note fault.kind ++ codes "\n"))))

-- Why a file has no image, where no promise is made of the line: a fault of a tape has its note.
unfoldable pub image_line : List ℕ → Refusal → List ℕ
image_line file (Tape fault) = tape_line file fault
image_line file refusal = file_line file refusal

-- Which base is free, after the addresses of the port.
abbrev pub free_part : Option ℕ → List ℕ
free_part None = NONE_IS_FREE.now
free_part (Some base) = TRY_PORT.now ++ hex_address base ++ IS_FREE.now

-- The addresses of the port, and which base is free.
unfoldable pub port_part : ℕ → ℕ → Option ℕ → List ℕ
port_part first last free = address_text first ++ codes "-" ++ address_text last ++ free_part free

-- The image of a file has bytes at the port.
abbrev pub port_line : List ℕ → ℕ → ℕ → Option ℕ → List ℕ
port_line file first last free
    = line_of file (AT_PORT.now ++ port_part first last free)

-- All faults of a source, or one line.
unfoldable pub load_text : LoadFault → List ℕ → List ℕ
load_text LooksLikeTape file = like_line LIKE_TAPE.now file USE_TAPE.now
load_text LooksLikeHex file = like_line LIKE_HEX.now file USE_TAPE.now
load_text LooksLikeSRecords file = like_line LIKE_S_RECORDS.now file USE_TAPE.now
load_text LooksLikeRaw file = like_line LIKE_RAW.now file USE_ADDRESS.now
load_text LooksLikeCapture file = like_line LIKE_CAPTURE.now file USE_MEND.now
load_text (NoImage place what number note) file
    = no_image_line file place.items what.now number note.now
load_text (Faults fault text) file = text.items
load_text (AtPort first last free) file = port_line file first last free
load_text (Refused refusal) file = image_line file refusal

-- What a file looks like that is refused as a source, and that some words take as an image.
abbrev pub look_of : LoadFault → Option (List ℕ)
look_of LooksLikeTape = Some LIKE_TAPE.now
look_of LooksLikeHex = Some LIKE_HEX.now
look_of LooksLikeSRecords = Some LIKE_S_RECORDS.now
look_of LooksLikeRaw = Some LIKE_RAW.now
look_of fault = None

abbrev pub advised_by : Option (List ℕ) → LoadFault → List ℕ → List ℕ → List ℕ
advised_by (Some look) fault file advice = like_line look file advice
advised_by None fault file advice = load_text fault file

-- What a word says of a file that takes no image: what the file looks like has this advice behind it.
abbrev pub advised_text : LoadFault → List ℕ → List ℕ → List ℕ
advised_text fault file advice = advised_by (look_of fault) fault file advice

-- The error stream got the fault line of a refusal with this status, or a beginning of the line if
-- it cannot be written.
abbrev pub IsTold : ℕ → Option (List ℕ) → Option (List ℕ) → Type 0
IsTold status held now = (refusal : Refusal) × (status ≡ status_of refusal)
    × AppendsFront held now (fault_line refusal)

-- What the error stream got of rejected words, or a beginning of it: the fault line of what is
-- wrong with them, and of help that could not be written. Words that do not fit the command line
-- get the text of `clap`, which no clause can name.
abbrev pub IsToldOfWords : WordsFault → ℕ → Option (List ℕ) → Option (List ℕ) → Type 0
IsToldOfWords (Help text) status held now = 1 ≤ status → AppendsFront held now (fault_line Write)
IsToldOfWords (Usage text) status held now = ⊤
IsToldOfWords Value status held now = AppendsFront held now (fault_line Words)
IsToldOfWords (Wrong which) status held now = AppendsFront held now
    (codes "mos65: " ++ (codes "WORDS: " ++ (which.now ++ 10 ∷ [])))
IsToldOfWords words_fault.OutOfMemory status held now
    = AppendsFront held now (fault_line OutOfMemory)
