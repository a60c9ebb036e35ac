-- What `run` does to its streams, and its exit status. No clause can say which image and names a
-- file stands for. Source: mos65.
use Rattle.std.specs.Prelude.{◌≡◌, ◌⊎◌, ℕ, Bool, true, false, if◌then◌else◌, List, Option, Result, Ok, Err}
use Rattle.std.specs.Io.KnownBytes.{Appends}
use Rattle.accesses.specs.Writing.{bytes_in, or_everywhere}
use Rattle.console.specs.Playing.{Outcome, begun, played}
use Rattle.console.specs.Written.{AreBytesOf, BrokeOff}
use Rattle.console.specs.declared.ending.Ending.{Ending}
use Rattle.console.specs.declared.ending.PlayFault.{PlayFault}
use Rattle.assembler.specs.Assembly.{AssemblyView}
use Rattle.arguments.specs.Asked.{map_of}
use Rattle.debug_files.specs.Changed.{TellsChanged}
use Rattle.debug_files.specs.Loaded.{IsUndebugged}
use Rattle.loading.specs.Machine.{IsMachine, IsUnmade}
use Rattle.loading.specs.Named.{MayLose}
use Rattle.loading.specs.Place.{names_of}
use Rattle.loading.specs.Told.{Heard, Tells}
use Rattle.loading.specs.Warned.{TellsWarnings}
use Rattle.arguments.specs.FaultLines.{fault_line}
use Rattle.arguments.specs.Statuses.{status_of}
use Rattle.model.specs.Event.{start}
use Rattle.model.specs.Session.{Session, new_session}
use Rattle.model.specs.State.{State}
use Rattle.model.specs.Writers.{AppendsFront}
use Rattle.arguments_play.specs.Run.{RunAsked}
use Rattle.source_map.specs.Lines.{PlacesView}
use Rattle.word_run.specs.Known.{AreDebugged, known_by}
use Rattle.word_run.specs.Places.{place_asked}
use Rattle.word_run.specs.Statuses.{refusal_of, status_of_ending}
use Rattle.word_run.specs.Told.{IsSite, cycles_line, ending_line, interrupted_line, place_of_ending, unplaced_line}

-- What is known of the input and of the output, before and after.
pub record Streams : Type 0 where
  pub given : Option (List ℕ)
  pub left : Option (List ℕ)
  pub held : Option (List ℕ)
  pub now : Option (List ℕ)

abbrev pub streams_of : Option (List ℕ) → Option (List ℕ) → Option (List ℕ) → Option (List ℕ)
    → Streams
streams_of given left held now = record { given = given; left = left; held = held; now = now }

abbrev pub heard_of : Option (List ℕ) → Option (List ℕ) → Heard
heard_of held now = record { held = held; now = now }

-- Where a run begins: a session, with these addresses written.
pub record Start : Type 0 where
  pub session : Session
  pub written : List Bool

-- A session ran to its end by the definition of a run, over some input, which is the reader's if
-- its bytes are known: what the run did not ask for is left, and its output was written. If a
-- stream failed, a beginning of the output of such a run was written.
abbrev pub Ran : Start → Option ℕ → ℕ → Streams → Result Outcome PlayFault → Type 0
Ran s until limit streams (Ok end) = (input : List ℕ)
    × (end ≡ played until limit (begun s.session s.written input))
    × AreBytesOf streams.given input × AreBytesOf streams.left end.play.input
    × Appends streams.held streams.now end.play.session.current.bus.out
Ran s until limit streams (Err fault) = (input : List ℕ) × AreBytesOf streams.given input
    × AppendsFront streams.held streams.now
    (played until limit (begun s.session s.written input)).play.session.current.bus.out

-- A writer got why a run did not come to its end, with what is known of the address.
abbrev pub TellsEnding : Option PlacesView → Heard → Ending → ℕ → ℕ → Type 0
TellsEnding known heard ending steps pc = (site : List ℕ)
    × IsSite known (place_of_ending ending pc) site
    × Tells heard (ending_line site ending steps pc)

-- The error stream got why a run did not come to its end, and then its cycles if they are asked
-- for.
abbrev pub TellsEnd : Bool → Option PlacesView → Heard → Ending → ℕ → State → Type 0
TellsEnd false known heard ending steps state
    = TellsEnding known heard ending steps state.regs.pc
TellsEnd true known heard ending steps state = (between : Option (List ℕ))
    × TellsEnding known (record { held = heard.held; now = between }) ending steps state.regs.pc
    × AppendsFront between heard.now (cycles_line state.cycles steps)

-- The error stream got how a run ended, or that a stream failed.
abbrev pub TellsRun : RunAsked → Option PlacesView → Heard → Result Outcome PlayFault → Type 0
TellsRun a known heard (Ok end)
    = TellsEnd a.tells_cycles known heard end.ending end.steps end.play.session.current
TellsRun a known heard (Err fault) = Tells heard (fault_line (refusal_of fault))

-- The exit status of a run: 0 at its end, or the value of A there if that is asked for.
abbrev pub status_of_run : Bool → Result Outcome PlayFault → ℕ
status_of_run is_of_a (Ok end) = status_of_ending end.ending
    (if is_of_a then end.play.session.current.regs.a else 0)
status_of_run is_of_a (Err fault) = status_of (refusal_of fault)

-- A session ran up to a place.
abbrev pub RanTo : RunAsked → Option PlacesView → Option ℕ → Start → Streams → Heard → ℕ → Type 0
RanTo a known until s streams heard status = (outcome : Result Outcome PlayFault)
    × Ran s until a.steps streams outcome × (status ≡ status_of_run a.is_status_of_a outcome)
    × TellsRun a known heard outcome

-- The error stream got where a run stood when it was interrupted.
abbrev pub TellsInterrupted : Option PlacesView → Heard → ℕ → ℕ → Type 0
TellsInterrupted known heard pc cycles = (site : List ℕ) × IsSite known pc site
    × Tells heard (interrupted_line site pc cycles)

-- A run broke off in a session, over some input, which is the reader's if its bytes are known. What
-- was written is a beginning of what that session has put out, and of the output of the whole run.
-- The error stream got where the session stands.
abbrev pub Interrupted : RunAsked → Option PlacesView → Option ℕ → Start → Streams → Heard → ℕ
    → Type 0
Interrupted a known until s streams heard status = (status ≡ 130)
    × ((input : List ℕ) × (now : Session) × (left : List ℕ) × AreBytesOf streams.given input
    × AreBytesOf streams.left left
    × BrokeOff until a.steps (begun s.session s.written input) now left
    × AppendsFront streams.held streams.now now.current.bus.out
    × AppendsFront streams.held streams.now
    (played until a.steps (begun s.session s.written input)).play.session.current.bus.out
    × TellsInterrupted known heard now.current.regs.pc now.current.cycles)

-- A session ran up to a place, or was interrupted; the latter only if the writer was.
unfoldable pub RanOrInterrupted : RunAsked → Option PlacesView → Option ℕ → Start → Streams → Bool
    → Heard → ℕ → Type 0
RanOrInterrupted a known until s streams interrupted heard status
    = RanTo a known until s streams heard status
    ⊎ ((interrupted ≡ true) × Interrupted a known until s streams heard status)

-- A session ran up to the place of the words, if it is found; otherwise the streams were left
-- alone, `Alone`, and the error stream got why it is no place.
abbrev pub RanIfFound : RunAsked → Option PlacesView → Option PlacesView → Result (Option ℕ) ℕ
    → Start → Streams → Bool → Heard → ℕ → Type 0 → Type 0
RanIfFound a known debug (Ok until) s streams interrupted heard status Alone
    = RanOrInterrupted a known until s streams interrupted heard status
RanIfFound a known debug (Err refused) s streams interrupted heard status Alone
    = (status ≡ refused) × Tells heard (unplaced_line debug a.until) × Alone

-- The debug information that is named was read, the error stream got which of its sources have
-- changed, and a session ran, of which that is known; or it was not read, and the error stream got
-- why.
abbrev pub RanDebugged : RunAsked → Option AssemblyView → List Bool → Start → Streams → Bool → Heard
    → ℕ → Type 0 → Type 0
RanDebugged a assembly loaded s streams interrupted heard status Alone
    = IsUndebugged a.debug_info heard.held heard.now status Alone
    ⊎ ((debug : Option PlacesView)
    × AreDebugged a.debug_info s.session.current loaded assembly debug
    × (between : Option (List ℕ)) × TellsChanged a.debug_info heard.held between
    × RanIfFound a (known_by a.file.file assembly debug) debug
    (place_asked (names_of assembly) debug a.until)
    s streams interrupted (heard_of between heard.now) status Alone)

-- A session at the start of an image, with the image's bytes written, or all if a run goes on where
-- nothing was.
abbrev pub start_of : RunAsked → List (Option ℕ) → Start
start_of a image = record {
  session = new_session 0 (start (map_of a.file) image);
  written = or_everywhere a.is_free (bytes_in image);
}

-- A file was loaded: from the start of an image that it can have, on the map of the words and with
-- the names of the image's source, or of the file of names, a session ran, unless debug information
-- was not read. Before that the error stream got how many warnings the source has, how many lines of
-- the file of names gave none, and that fill at the port was left out.
abbrev pub RanFile : RunAsked → Streams → Bool → Heard → ℕ → Type 0 → Type 0
RanFile a streams interrupted heard status Alone = (image : List (Option ℕ))
    × (assembly : Option AssemblyView) × (fill : Option ℕ)
    × IsMachine a.file a.others a.symbols fill image assembly
    × (between : Option (List ℕ)) × (lost : ℕ) × MayLose a.file.profile a.symbols lost
    × TellsWarnings (map_of a.file) assembly lost fill (heard_of heard.held between)
    × RanDebugged a assembly (bytes_in image) (start_of a image) streams interrupted
    (heard_of between heard.now) status Alone

-- What was done for words. `interrupted` says whether the writer was interrupted.
abbrev pub IsDone : RunAsked → Streams → Bool → Heard → ℕ → Type 0 → Type 0
IsDone a streams interrupted heard status Alone
    = IsUnmade a.file a.others a.symbols heard status Alone ⊎ RanFile a streams interrupted heard status Alone
