-- Where a trace leads, what it writes, and how its exit status tells of it. No clause can say which
-- image and names a file stands for. Source: mos65.
use Rattle.std.specs.Prelude.{◌≡◌, ◌⊎◌, ⊤, ℕ, true, false, Bool, codes, if◌then◌else◌, List, [], ◌∷◌, ◌++◌, Option, Some, None, Result, Ok, Err}
use Rattle.std.specs.Borrow.{Bor}
use Rattle.std.specs.Option.{option_map}
use Rattle.std.specs.Io.KnownBytes.{Appends, Consumes, IsAtEnd}
use Rattle.accesses.specs.Writing.{bytes_in, or_everywhere}
use Rattle.assembler.specs.Assembly.{AssemblyView}
use Rattle.console.specs.Playing.{Outcome, Play, begun, is_at, played}
use Rattle.console.specs.Turns.{CutTurn, EndsOnce, EndsWith, MayCome, TurnsTo, known, play_at}
use Rattle.console.specs.Written.{AreBytesOf}
use Rattle.console.specs.declared.ending.Ending.{Ending}
use Rattle.console.specs.declared.ending.Ending.TheVariants.{Until}
use Rattle.console.specs.declared.ending.Played.{Played}
use Rattle.console.specs.declared.turn.Player.{Player}
use Rattle.arguments.specs.Asked.{map_of}
use Rattle.debug_files.specs.Changed.{TellsChanged}
use Rattle.debug_files.specs.Loaded.{IsUndebugged}
use Rattle.debug_files.specs.Written.{replaces_source}
use Rattle.loading.specs.Machine.{IsMachine, IsUnmade}
use Rattle.loading.specs.Named.{MayLose}
use Rattle.loading.specs.Place.{names_of}
use Rattle.loading.specs.Warned.{left_text}
use Rattle.loading.specs.declared.loaded.Loaded.{Loaded}
use Rattle.model.specs.Event.{start}
use Rattle.model.specs.Session.{Session, new_session}
use Rattle.model.specs.State.{State}
use Rattle.model.specs.Writers.{AppendsFront}
use Rattle.arguments.specs.FaultLines.{fault_line, file_line}
use Rattle.arguments.specs.Outputs.{clash}
use Rattle.arguments.specs.Statuses.{status_of}
use Rattle.arguments.specs.declared.refusal.ReadFault.TheVariants.{Other}
use Rattle.arguments.specs.declared.refusal.Refusal.{Refusal}
use Rattle.arguments.specs.declared.refusal.Refusal.TheVariants.{OutOfMemory, Read, Write, WriteFile}
use Rattle.word_run.specs.Known.{AreDebugged, known_by}
use Rattle.word_run.specs.Places.{place_asked}
use Rattle.loading.specs.Told.{Heard, Tells}
use Rattle.word_run.specs.Runs.{Streams, TellsEnding}
use Rattle.word_run.specs.Statuses.{status_of_ending}
use Rattle.word_run.specs.Told.{unplaced_line}
use Rattle.source_map.specs.Lines.{PlacesView}
use Rattle.trace_rows.specs.declared.sites.Sites.{Sites}
use Rattle.arguments_play.specs.Trace.{TraceAsked}
use Rattle.word_trace.specs.Beginnings.{AreSites, first_written}
use Rattle.word_trace.specs.Gathered.{Gathered, Gathers, ahead_of, gathered, none_gathered, text_of_step}
use Rattle.word_trace.specs.Texts.{GotFront, GotText, Noted, TurnNoted, TurnPassed, by_steps, no_text, note_step, pass_step}
use Rattle.word_trace.specs.declared.tracer.Tracer.{Tracer}
use Rattle.word_trace.specs.declared.wording.TheConstants.{NOT_BEGUN}

-- ---- a trace

-- No step was made, and the place is reached.
abbrev pub at_once : Play → Outcome
at_once p = record { steps = 0; ending = Until; play = p }

-- A trace begins where no place is named, or where the program is at the place.
abbrev pub is_begun : Option ℕ → State → Bool
is_begun None state = true
is_begun (Some place) state = is_at (Some place) state

-- A run up to the place where a trace begins.
abbrev pub reached : Option ℕ → Play → Outcome
reached from p = if is_begun from p.session.current then at_once p
    else played from 18446744073709551615 p

-- No step is traced of a run that ended before its trace began.
abbrev pub traced_after : Option ℕ → ℕ → Outcome → Outcome
traced_after to limit before = by before.ending
  where
    by : Ending → Outcome
    by Until = played to limit before.play
    by why = record { steps = 0; ending = why; play = before.play }

-- From the place where a trace begins, so many steps at most are traced, up to the place where it
-- ends.
abbrev pub traced : Option ℕ → Option ℕ → ℕ → Play → Outcome
traced from to limit p = traced_after to limit (reached from p)

-- What is gathered where a trace begins.
abbrev pub gathered_at : Option ℕ → Gathered → Play → Gathered
gathered_at from g p = if is_begun from p.session.current then g
    else by_steps pass_step from 18446744073709551615 p g

-- What is noted of a run that led to the place where its trace begins, and of no other.
abbrev pub noted_after : Option ℕ → ℕ → Gathered → Outcome → Option Noted
noted_after to limit g before = by before.ending
  where
    by : Ending → Option Noted
    by Until = Some (by_steps note_step to limit before.play (no_text g))
    by why = None

-- What a trace notes from one place to another.
abbrev pub trace_noted : Option ℕ → Option ℕ → ℕ → Gathered → Play → Option Noted
trace_noted from to limit g p = noted_after to limit (gathered_at from g p) (reached from p)

-- ---- a part of a run

-- A reader that is said to have ended gives nothing more.
abbrev pub EndsAt : Bool → Option (List ℕ) → Type 0
EndsAt is_over left = is_over ≡ true → IsAtEnd left

-- A part of a run went on in a session, from what its player remembered: what it read, where that
-- leads, and what its steps make of something, whatever comes after it.
pub record WentOn {A : Type 0} (part : Play → Outcome) (makes : Play → A) (s : Session)
    (before : Player) (given left : Option (List ℕ)) (end : Played) (t : Session) (after : Player)
    (made : A) : Type 0 where
  pub told : List ℕ
  pub consumes : Consumes given left told
  pub once : EndsOnce before.is_over after.is_over told
  pub leads : (rest : List ℕ) → MayCome after.is_over rest
      → (part (play_at s (known before) (told ++ rest))
      ≡ record { steps = end.steps; ending = end.ending; play = play_at t (known after) rest })
      × (makes (play_at s (known before) (told ++ rest)) ≡ made)

-- What a session has put out begins what a run does.
abbrev pub CutIn : Outcome → Session → Type 0
CutIn end t = (more : List ℕ) × (end.play.session.current.bus.out ≡ t.current.bus.out ++ more)

-- A part of a run was cut short in a session, from what its player remembered: what it read; and
-- whatever comes after it, that what the session has put out begins what that part puts out, and
-- what is so of that which its steps make of something.
pub record WasCut {A : Type 0} (part : Play → Outcome) (makes : Play → A) (IsBegun : A → Type 0)
    (s : Session) (before : Player) (given left : Option (List ℕ)) (t : Session)
    (is_over : Bool) : Type 0 where
  pub told : List ℕ
  pub consumes : Consumes given left told
  pub once : EndsOnce before.is_over is_over told
  pub leads : (rest : List ℕ) → MayCome is_over rest
      → CutIn (part (play_at s (known before) (told ++ rest))) t
      × IsBegun (makes (play_at s (known before) (told ++ rest)))

-- A turn was made in a session, from what its player remembered: what it read, and where that
-- leads, whatever comes after it.
pub record Turned (ending : Option Ending) (s : Session) (before : Player)
    (given left : Option (List ℕ)) (t : Session) (after : Player) (told : List ℕ) : Type 0 where
  pub consumes : Consumes given left told
  pub over : EndsWith before.is_over after.is_over given left
  pub once : EndsOnce before.is_over after.is_over told
  pub turn : TurnsTo s (known before) told after.is_over ending t (known after)

-- Its step was passed over.
abbrev pub PassedTurn : Option Ending → Session → Player → Tracer → Option (List ℕ)
    → Option (List ℕ) → Session → Player → Tracer → Type 0
PassedTurn ending s before a given left t after b = (told : List ℕ)
    × Turned ending s before given left t after told
    × TurnPassed ending s.current t.current (gathered a) (gathered b)

-- Its step was noted, and so much text was gathered.
abbrev pub NotedTurn : Option Ending → Session → Player → Tracer → Streams → Session → Player
    → Tracer → Type 0
NotedTurn ending s before a streams t after b = (told : List ℕ) × (text : List ℕ)
    × Turned ending s before streams.given streams.left t after told
    × TurnNoted ending s.current t.current (gathered a) (gathered b) text
    × Gathers streams.held streams.now a.sheet.text.items b.sheet.text.items text

-- A turn that failed: what it read, and that it was cut short.
pub record TurnCut (s : Session) (before : Player) (given left : Option (List ℕ)) (t : Session)
    (after : Player) (told : List ℕ) : Type 0 where
  pub consumes : Consumes given left told
  pub over : EndsWith before.is_over after.is_over given left
  pub once : EndsOnce before.is_over after.is_over told
  pub cut : (rest : List ℕ) → MayCome after.is_over rest
      → CutTurn (play_at s (known before) (told ++ rest)) told rest t

-- Of so much text a front was gathered: what a writer got, and what is on the sheet.
pub record GathersFront (held now : Option (List ℕ)) (before after text : List ℕ) : Type 0 where
  pub written : List ℕ
  pub lost : List ℕ
  pub appends : Appends held now written
  pub whole : written ++ (after ++ lost) ≡ before ++ text

-- Nothing was noted of it; or its step was made and noted, and a front of the step's text gathered.
abbrev pub NoteCut : Session → Player → Gathered → Session → Player → List ℕ → List ℕ → Type 0
NoteCut s before g t after told text = (text ≡ [])
    ⊎ (TurnsTo s (known before) told after.is_over None t (known after)
    × (text ≡ text_of_step t.current (ahead_of g s.current) g))

-- A turn of the trace that failed.
abbrev pub NotedCut : Session → Player → Tracer → Streams → Session → Player → Tracer → Type 0
NotedCut s before a streams t after b = (told : List ℕ) × (text : List ℕ)
    × TurnCut s before streams.given streams.left t after told
    × NoteCut s before (gathered a) t after told text
    × GathersFront streams.held streams.now a.sheet.text.items b.sheet.text.items text

-- ---- what the word does

-- What is traced: a session, with the assembly of its source, and the addresses at which its file
-- has a byte.
pub record Begin : Type 0 where
  pub assembly : Option AssemblyView
  pub debug : Option PlacesView
  pub session : Session
  pub written : List Bool

abbrev pub begin_with : Loaded → Option PlacesView → Begin
begin_with loaded debug = record {
  assembly = loaded.assembly;
  debug = debug;
  session = loaded.session;
  written = loaded.written;
}

abbrev pub begin_view : Loaded → Option (Bor PlacesView) → Begin
begin_view loaded debug = begin_with loaded (option_map (λ p. p.now) debug)

-- The run that is traced, over some input. Each address counts as written where a run goes on where
-- nothing was.
abbrev pub play_of : TraceAsked → Begin → List ℕ → Play
play_of a b input = begun b.session (or_everywhere a.is_free b.written) input

-- A writer got the text that a trace notes, by the sites of the source and by the addresses that
-- count as written.
abbrev pub WroteNotes : TraceAsked → Begin → (Gathered → Option Noted)
    → Option (List ℕ) → Option (List ℕ) → Type 0
WroteNotes a b notes held now = (sites : Sites) × AreSites b.assembly b.debug sites
    × GotText (notes (none_gathered a sites (first_written a.finds_unwritten b.written))) held now

-- A writer got nothing, or a beginning of that text.
abbrev pub WroteFront : TraceAsked → Begin → (Gathered → Option Noted)
    → Option (List ℕ) → Option (List ℕ) → Type 0
WroteFront a b notes held now = Appends held now [] ⊎ ((sites : Sites) × AreSites b.assembly b.debug sites
    × GotFront (notes (none_gathered a sites (first_written a.finds_unwritten b.written))) held now)

-- The file for lcov has not the name of the file that is run, or of a file of names or of debug
-- information, or the path of a source that this names.
abbrev pub IsApart : TraceAsked → Option PlacesView → Type 0
IsApart a debug = (clash (Some a.file.file ∷ a.symbols ∷ a.debug_info ∷ []) (a.lcov ∷ []) ≡ false)
    × (replaces_source a.debug_info a.source_root debug a.lcov ≡ false)

-- Memory ran out, a stream failed, or the file for lcov cannot be written.
abbrev pub IsOfStreams : Refusal → Type 0
IsOfStreams OutOfMemory = ⊤
IsOfStreams (Read Other) = ⊤
IsOfStreams Write = ⊤
IsOfStreams (WriteFile why) = ⊤
IsOfStreams refusal = ⊥

-- A trace began, if its run came to the place.
abbrev pub has_begun : Ending → Bool
has_begun Until = true
has_begun why = false

-- That the program ended before its trace began, if it did.
abbrev pub unbegun_text : Bool → List ℕ
unbegun_text true = []
unbegun_text false = NOT_BEGUN.now ++ codes "\n"

-- The error stream got what the program puts out; that the trace did not begin, if it did not; and
-- why the run did not come to its end.
abbrev pub TellsTrace : Option PlacesView → Heard → Ending → Outcome → Type 0
TellsTrace known heard begun end = (out : Option (List ℕ)) × (said : Option (List ℕ))
    × Appends heard.held out end.play.session.current.bus.out
    × AppendsFront out said (unbegun_text (has_begun begun))
    × TellsEnding known (record { held = said; now = heard.now })
    end.ending end.steps end.play.session.current.regs.pc

-- Why a trace was cut short: the file for lcov is named.
abbrev pub cut_line : Option (List ℕ) → Refusal → List ℕ
cut_line (Some file) (WriteFile why) = file_line file (WriteFile why)
cut_line (Some file) refusal = fault_line refusal
cut_line None refusal = fault_line refusal

-- The error stream got a beginning of what the program puts out, and why the trace was cut short.
abbrev pub TellsCut : TraceAsked → Heard → Outcome → Refusal → Type 0
TellsCut a heard end refusal = (out : Option (List ℕ))
    × AppendsFront heard.held out end.play.session.current.bus.out
    × AppendsFront out heard.now (cut_line a.lcov refusal)

-- A session was traced by the definition of a trace over some input, which is the reader's if its
-- bytes are known: what was not asked for is left, what was noted was written, and the error stream
-- got the program's output and how it ended; the file for lcov has a name of its own. Or memory ran
-- out, a stream failed, or the file for lcov was not written: then both got a beginning of what
-- they get of such a trace.
abbrev pub IsTraced : TraceAsked → Begin → Option ℕ → Option ℕ → Streams → Heard
    → Result Outcome Refusal → Type 0
IsTraced a b from to streams heard (Ok end) = (input : List ℕ)
    × (end ≡ traced from to a.steps (play_of a b input))
    × AreBytesOf streams.given input × AreBytesOf streams.left end.play.input
    × WroteNotes a b (λ g. trace_noted from to a.steps g (play_of a b input))
    streams.held streams.now
    × TellsTrace (known_by a.file.file b.assembly b.debug) heard (reached from (play_of a b input)).ending end × IsApart a b.debug
IsTraced a b from to streams heard (Err refusal) = IsOfStreams refusal
    × ((input : List ℕ) × AreBytesOf streams.given input
    × WroteFront a b (λ g. trace_noted from to a.steps g (play_of a b input))
    streams.held streams.now
    × TellsCut a heard (traced from to a.steps (play_of a b input)) refusal)

-- The exit status of a trace: 0 where the program came to its end, or to the end of the trace.
abbrev pub status_of_trace : Result Outcome Refusal → ℕ
status_of_trace (Ok end) = status_of_ending end.ending 0
status_of_trace (Err refusal) = status_of refusal

-- A session was traced from one place to another.
abbrev pub TracedTo : TraceAsked → Begin → Option ℕ → Option ℕ → Streams → Heard → ℕ → Type 0
TracedTo a b from to streams heard status = (outcome : Result Outcome Refusal)
    × IsTraced a b from to streams heard outcome × (status ≡ status_of_trace outcome)

-- A session was traced between the places of the words, if they are found; otherwise the streams
-- were left alone, `Alone`, and the error stream got which word is no place, and why.
abbrev pub TracedIfFound : TraceAsked → Begin → Result (Option ℕ) ℕ → Result (Option ℕ) ℕ
    → Streams → Heard → ℕ → Type 0 → Type 0
TracedIfFound a b (Ok from) (Ok to) streams heard status Alone
    = TracedTo a b from to streams heard status
TracedIfFound a b (Ok from) (Err refused) streams heard status Alone
    = (status ≡ refused) × Tells heard (unplaced_line b.debug a.to) × Alone
TracedIfFound a b (Err refused) to streams heard status Alone
    = (status ≡ refused) × Tells heard (unplaced_line b.debug a.from) × Alone

-- A trace between the places of the words, with the debug information that they name; before it the
-- error stream got which of its sources have changed. Or that was not read, and the error stream got
-- why.
abbrev pub TracedDebugged : TraceAsked → Option AssemblyView → Session → List Bool → Streams → Heard → ℕ
    → Type 0 → Type 0
TracedDebugged a assembly session loaded streams heard status Alone
    = IsUndebugged a.debug_info heard.held heard.now status Alone
    ⊎ ((debug : Option PlacesView) × AreDebugged a.debug_info session.current loaded assembly debug
    × (between : Option (List ℕ)) × TellsChanged a.debug_info heard.held between
    × TracedIfFound a (record { assembly = assembly; debug = debug; session = session; written = loaded })
    (place_asked (names_of assembly) debug a.from) (place_asked (names_of assembly) debug a.to) streams
    (record { held = between; now = heard.now }) status Alone)

-- What was done for words: nothing was loaded, the error stream got why, and the others were left
-- alone; or from the start of an image that the file can have, on the map of the words and with the
-- names of the image's source, or of the file of names, a session was traced, unless debug information
-- was not read. Before that the error stream got how many lines of the file of names gave none, and
-- that fill at the port was left out.
abbrev pub IsDone : TraceAsked → Streams → Heard → ℕ → Type 0 → Type 0
IsDone a streams heard status Alone = IsUnmade a.file a.others a.symbols heard status Alone
    ⊎ ((image : List (Option ℕ)) × (assembly : Option AssemblyView)
    × (fill : Option ℕ) × IsMachine a.file a.others a.symbols fill image assembly
    × (lost : ℕ) × MayLose a.file.profile a.symbols lost × (between : Option (List ℕ))
    × Tells (record { held = heard.held; now = between }) (left_text lost fill)
    × TracedDebugged a assembly (new_session 0 (start (map_of a.file) image)) (bytes_in image) streams
    (record { held = between; now = heard.now }) status Alone)
