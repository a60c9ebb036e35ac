-- What `page` does to the error stream, and its exit status. No clause can say which image and
-- names a file stands for, which input and notes a file has, nor what the page's file got.
-- Source: mos65.
use Rattle.std.specs.Prelude.{◌≡◌, ◌⊎◌, ⊤, ℕ, Bool, false, [], List, Option, Some, None, Result, Ok, Err}
use Rattle.accesses.specs.Writing.{bytes_in, or_everywhere}
use Rattle.arguments.specs.Asked.{FileAsked, map_of}
use Rattle.arguments.specs.FaultLines.{file_line}
use Rattle.arguments.specs.Statuses.{status_of}
use Rattle.arguments.specs.declared.refusal.Refusal.{Refusal}
use Rattle.arguments.specs.declared.refusal.Refusal.TheVariants.{Map, OutOfMemory, Read, Session, Source, Tape, Words, Write, WriteFile}
use Rattle.assembler.specs.Assembly.{AssemblyView}
use Rattle.console.specs.Playing.{Outcome, begun, played}
use Rattle.console.specs.Written.{RanAs}
use Rattle.console.specs.declared.ending.Played.{Played}
use Rattle.debug_files.specs.Changed.{TellsChanged}
use Rattle.debug_files.specs.Loaded.{IsUndebugged}
use Rattle.debug_files.specs.Written.{replaces_source}
use Rattle.loading.specs.Loads.{AreImageNames, IsLoaded}
use Rattle.loading.specs.Named.{MayLose}
use Rattle.loading.specs.Warned.{left_text}
use Rattle.loading.specs.Place.{names_of, place_of}
use Rattle.loading.specs.Told.{Heard, IsUnloaded, Tells}
use Rattle.model.specs.Event.{start}
use Rattle.model.specs.Names.{Definitions}
use Rattle.model.specs.Session.{Session as SessionView, new_session}
use Rattle.source_map.specs.Lines.{PlacesView}
use Rattle.word_page.specs.Asked.{PageAsked}
use Rattle.word_page.specs.Notes.{IsFaultOf, notes_line, notes_status}
use Rattle.word_page.specs.declared.fault.PageFault.{PageFault}
use Rattle.word_page.specs.declared.fault.PageFault.TheVariants.{File, Notes}
use Rattle.word_page.specs.declared.notes.NotesFault.{NotesFault}
use Rattle.word_run.specs.Known.{AreDebugged, known_by}
use Rattle.word_run.specs.Places.{place_asked}
use Rattle.word_run.specs.Runs.{Start, TellsEnding}
use Rattle.word_run.specs.Statuses.{status_of_ending}
use Rattle.word_run.specs.Told.{unplaced_line}

-- A session with these addresses written, or all if a run goes on where nothing was.
abbrev pub start_in : Bool → SessionView → List Bool → Start
start_in is_free session written
    = record { session = session; written = or_everywhere is_free written }

-- A session ran over an input by the definition of a run.
abbrev pub Ran : Option ℕ → ℕ → Start → List ℕ → Played → SessionView → Type 0
Ran until steps s input end now = (left : List ℕ)
    × RanAs (played until steps (begun s.session s.written input)) end now left

-- The input of a run: none where no file is named.
abbrev pub IsInput : Option (List ℕ) → List ℕ → Type 0
IsInput None input = input ≡ []
IsInput (Some path) input = ⊤

-- Why a file of names or input is not read, or the page not written: the names have a fault, memory
-- ran out, or reading or writing failed.
abbrev pub EndsFile : Refusal → Type 0
EndsFile (Source fault) = ⊤
EndsFile (Map fault) = ⊤
EndsFile OutOfMemory = ⊤
EndsFile (Read why) = ⊤
EndsFile Write = ⊤
EndsFile (WriteFile why) = ⊤
EndsFile Words = ⊥
EndsFile (Tape fault) = ⊥
EndsFile (Session fault) = ⊥

-- The same, or a file of notes has a fault.
abbrev pub EndsPage : PageFault → Type 0
EndsPage (File why) = EndsFile why.refusal
EndsPage (Notes file fault) = (text : List ℕ) × IsFaultOf text fault

-- The error stream got why a file is not read or written, with its name.
abbrev pub IsUnread : Heard → ℕ → Type 0
IsUnread heard status = (file : List ℕ) × (refusal : Refusal) × EndsFile refusal
    × (status ≡ status_of refusal) × Tells heard (file_line file refusal)

-- The error stream got which fault a file of notes has, with its name.
abbrev pub IsUnnoted : Heard → ℕ → Type 0
IsUnnoted heard status = (file : List ℕ) × (text : List ℕ) × (fault : NotesFault)
    × IsFaultOf text fault × (status ≡ notes_status fault) × Tells heard (notes_line file fault)

-- The error stream got why there is no whole page.
abbrev pub IsRefused : Heard → ℕ → Type 0
IsRefused heard status = IsUnread heard status ⊎ IsUnnoted heard status

-- A session ran over some input by the definition of a run, and the error stream got how it ended.
abbrev pub IsRun : Option PlacesView → Heard → ℕ → Outcome → Type 0
IsRun known heard status end = (status ≡ status_of_ending end.ending 0)
    × TellsEnding known heard end.ending end.steps end.play.session.current.regs.pc

-- The page has not the path of a source that debug information names.
abbrev pub IsApart : PageAsked → Option PlacesView → Type 0
IsApart a debug = replaces_source a.debug_info a.source_root debug (Some a.out) ≡ false

-- A session ran up to a place, or there is no whole page.
abbrev pub IsShown : PageAsked → Option PlacesView → Option PlacesView → Option ℕ → Start → Heard
    → ℕ → Type 0
IsShown a debug known until s heard status = IsRefused heard status
    ⊎ ((input : List ℕ) × IsInput a.input input × IsApart a debug
    × IsRun known heard status (played until a.steps (begun s.session s.written input)))

-- The same up to the place of the words, if it is found; otherwise the error stream got why it is no
-- place.
abbrev pub ShownIfFound : PageAsked → Option PlacesView → Option PlacesView → Result (Option ℕ) ℕ
    → Start → Heard → ℕ → Type 0
ShownIfFound a known debug (Ok until) s heard status
    = IsShown a debug known until s heard status
ShownIfFound a known debug (Err refused) s heard status
    = (status ≡ refused) × Tells heard (unplaced_line debug a.until)

-- ---- names and places

-- The names of a file of names, if one is named.
abbrev pub AreNamed : Option (List ℕ) → FileAsked → Option AssemblyView → Type 0
AreNamed None file names = names ≡ None
AreNamed (Some path) file None = ⊥
AreNamed (Some path) file (Some names) = AreImageNames (map_of file) names

-- The place of a word by a file of names, where it names none by the source.
abbrev pub if_unplaced : Option ℕ → Option ℕ → Option ℕ
if_unplaced None other = other
if_unplaced (Some address) other = None

abbrev pub place_besides : Definitions → Definitions → Option (List ℕ) → Option ℕ
place_besides source names None = None
place_besides source names (Some word) = if_unplaced (place_of source word) (place_of names word)

-- The place of a word by the source, by a file of names or by debug information: the first of these
-- that has it.
abbrev pub found_or : Option ℕ → Result (Option ℕ) ℕ → Result (Option ℕ) ℕ
found_or (Some address) rest = Ok (Some address)
found_or None rest = rest

abbrev pub place_in : Definitions → Definitions → Option PlacesView → Option (List ℕ)
    → Result (Option ℕ) ℕ
place_in source names debug word
    = found_or (place_besides source names word) (place_asked source debug word)

-- The debug information that is named was read, the error stream got which of its sources have
-- changed, and the place of the words was looked for among names and in the source; or it was not
-- read, and the error stream got why.
abbrev pub ShownIfDebugged : PageAsked → Option AssemblyView → Option AssemblyView → List Bool
    → Start → Heard → ℕ → Type 0
ShownIfDebugged a assembly names loaded s heard status
    = IsUndebugged a.debug_info heard.held heard.now status ⊤
    ⊎ ((debug : Option PlacesView)
    × AreDebugged a.debug_info s.session.current loaded assembly debug
    × (between : Option (List ℕ)) × TellsChanged a.debug_info heard.held between
    × ShownIfFound a (known_by a.file.file assembly debug) debug
    (place_in (names_of assembly) (names_of names) debug a.until) s
    (record { held = between; now = heard.now }) status)

-- The names were read, the error stream got how many lines gave none and that fill at the port was
-- left out, and the same was done with them; or there is no whole page.
abbrev pub ShownIfNamed : PageAsked → Option AssemblyView → Option ℕ → List Bool → Start → Heard
    → ℕ → Type 0
ShownIfNamed a assembly fill loaded s heard status = IsRefused heard status
    ⊎ ((names : Option AssemblyView) × AreNamed a.symbols a.file names
    × (lost : ℕ) × MayLose a.file.profile a.symbols lost × (between : Option (List ℕ))
    × Tells (record { held = heard.held; now = between }) (left_text lost fill)
    × ShownIfDebugged a assembly names loaded s (record { held = between; now = heard.now })
    status)

-- A session at the start of an image, with the image's bytes written.
abbrev pub start_of : PageAsked → List (Option ℕ) → Start
start_of a image
    = start_in a.is_free (new_session 0 (start (map_of a.file) image)) (bytes_in image)

-- What was done for words: a file was not loaded, and the error stream got why; or from the start
-- of an image that it can have, on the map of the words and with the names of the image's source
-- and of the file of names, a session ran.
abbrev pub IsDone : PageAsked → Heard → ℕ → Type 0
IsDone a heard status = IsUnloaded a.file heard status ⊤
    ⊎ ((image : List (Option ℕ)) × (assembly : Option AssemblyView)
    × (fill : Option ℕ) × IsLoaded a.file fill image assembly
    × ShownIfNamed a assembly fill (bytes_in image) (start_of a image) heard status)
