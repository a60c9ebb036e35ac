-- What a request does to a session, and what is answered. Source: Debug Adapter Protocol 1.65; mos65.
use Rattle.std.specs.Prelude.{ℕ, ◌≡◌, ◌==◌, ◌&&◌, Bool, true, false, if◌then◌else◌, List, [], ◌∷◌, length, string_bytes, Option, Some, None, Vec}
use Rattle.std.specs.declared.alloc.Global.{Global}
use Rattle.dap_messages.specs.SeenAnswers.{SeenAnswer, breakpoints_body, continued, exception_body, nothing, scopes, threads}
use Rattle.dap_views.specs.Breaks.{HoldsAddresses, HoldsFunctions, SetsAddresses, SetsFunctions, SetsSource}
use Rattle.dap_views.specs.Files.{sources_shown}
use Rattle.dap_views.specs.declared.source.FilePath.{FilePath}
use Rattle.dap_session.specs.Completions.{completions}
use Rattle.dap_views.specs.Targets.{AreTargets}
use Rattle.dap_views.specs.Watches.{KeepsBreaks, SetsWatches, TellsWatches}
use Rattle.dap_messages.specs.Events.{terminated}
use Rattle.dap_messages.specs.Messages.{Said, done, event}
use Rattle.dap_messages.specs.declared.halt.Reason.{Reason}
use Rattle.dap_messages.specs.declared.halt.Reason.TheVariants.{Entry, NoStop}
use Rattle.dap_messages.specs.Listed.{addresses_of, functions_of, lines_of, reserving}
use Rattle.dap_messages.specs.declared.listed.AddressList.{AddressList}
use Rattle.dap_messages.specs.declared.listed.FileLines.{FileLines}
use Rattle.dap_messages.specs.declared.listed.FunctionList.{FunctionList}
use Rattle.dap_messages.specs.declared.listed.LineList.{LineList}
use Rattle.dap_messages.specs.declared.listed.Listed.{Listed}
use Rattle.dap_messages.specs.declared.request.Breakpoints.{Breakpoints}
use Rattle.dap_messages.specs.declared.request.Breakpoints.TheVariants as kind
use Rattle.dap_messages.specs.declared.request.Change.{Change}
use Rattle.dap_messages.specs.declared.request.Change.TheVariants as change
use Rattle.dap_messages.specs.declared.request.DataBreakpoint.{DataBreakpoint}
use Rattle.dap_messages.specs.declared.request.Move.{Move}
use Rattle.dap_messages.specs.declared.request.Move.TheVariants as move
use Rattle.dap_messages.specs.declared.request.Query.{Query}
use Rattle.dap_messages.specs.declared.request.Query.TheVariants as query
use Rattle.dap_messages.specs.declared.request.SessionRequest.{SessionRequest}
use Rattle.dap_messages.specs.declared.request.SessionRequest.TheVariants as to
use Rattle.dap_messages.specs.Seen.{launch_view}
use Rattle.dap_session.specs.Begun.{IsLaunched}
use Rattle.dap_session.specs.Changes.{Goes, HasChanged, TellsValue, Writes, change_asked}
use Rattle.dap_session.specs.Console.{Evaluates}
use Rattle.dap_desk.specs.Breaks.{KeepsEvents}
use Rattle.dap_desk.specs.Moves.{KeepsWatches, Stand, moved, moved_fault, moved_reason, moved_words, stand_of}
use Rattle.dap_session.specs.Options.{steps_of}
use Rattle.dap_session.specs.Paths.{path_at}
use Rattle.dap_session.specs.Passes.{Makes, PassesLogs, further_of}
use Rattle.dap_session.specs.Stands.{KeepsProgram, NotesReason, TellsGone, TellsStand}
use Rattle.dap_session.specs.declared.client.Client.{Client}
use Rattle.dap_session.specs.declared.passing.Further.TheVariants.{Again}
use Rattle.dap_session.specs.declared.wording.TheConstants.{NOT_BEGUN}
use Rattle.dap_messages.specs.declared.counting.Counting.{Counting}
use Rattle.dap_views.specs.Frames.{AreFrames}
use Rattle.dap_views.specs.Locations.{AreLocations}
use Rattle.dap_views.specs.Memory.{memory_shown}
use Rattle.dap_views.specs.Rows.{disassembled}
use Rattle.dap_views.specs.Locals.{HasLocals, IsData, ShowsVariables, frame_number}
use Rattle.model.specs.declared.event.EventFault.{EventFault}
use Rattle.mon_session.specs.declared.mon_state.MonState.{MonState}

-- A request is done, and nothing more is said.
abbrev pub all_done : List Said
all_done = done nothing ∷ []

-- ---- where a session stands first

-- The machine stands before the first instruction, or has run to a stop.
abbrev pub begun_stand : Client → Stand
begun_stand client = if client.launch.stop_on_entry then stand_of client.mon
    else moved (steps_of (launch_view client.launch)) move.Go client.mon

abbrev pub begun_reason : Client → Reason
begun_reason client = if client.launch.stop_on_entry then Entry
    else moved_reason (steps_of (launch_view client.launch)) move.Go client.mon

abbrev pub begun_words : Client → List ℕ
begun_words client = if client.launch.stop_on_entry then NOT_BEGUN.now
    else moved_words (steps_of (launch_view client.launch)) move.Go client.mon

abbrev pub begun_fault : Client → Option EventFault
begun_fault client = if client.launch.stop_on_entry then None
    else moved_fault (steps_of (launch_view client.launch)) move.Go client.mon

-- So it stands after a request, and that is told.
abbrev pub BeginsFirst : Client → Client → List Said → Type 0
BeginsFirst old new said = (stand_of new.mon ≡ begun_stand old) × KeepsWatches old.mon new.mon
    × KeepsProgram old new
    × TellsStand (begun_reason old) (begun_words old) (begun_fault old) old new.mon nothing said
    × NotesReason (begun_reason old) old new

-- A run goes on past log points.
abbrev pub Begins : Client → Client → List Said → Type 0
Begins old new said = (first : Client) × (so_far : List Said) × BeginsFirst old first so_far
    × PassesLogs (Again move.Go) first so_far new said

-- ---- what is shown

abbrev pub is_first_frame : Option ℕ → Bool
is_first_frame (Some id) = id == 1
is_first_frame None = false

-- With its locals, if some of them are there.
abbrev pub AreScopes : Option ℕ → MonState → SeenAnswer → Type 0
AreScopes frame mon v = (locals : Option ℕ)
    × HasLocals mon.session.current mon.places (frame_number frame) locals
    × (v ≡ scopes (is_first_frame frame) locals)

-- The value that is answered to a question, which changes nothing.
abbrev pub IsShown : Query → Counting → Client → SeenAnswer → Type 0
IsShown query.Threads counting client v = v ≡ threads
IsShown (query.StackTrace page) counting client v = AreFrames client.mon.session.current
    client.mon.places client.files.items counting page v
IsShown (query.Scopes frame) counting client v = AreScopes frame client.mon v
IsShown (query.Variables scope page) counting client v
    = ShowsVariables client.mon.session client.mon.places scope page v
IsShown (query.ReadMemory address count) counting client v
    = v ≡ memory_shown client.mon.session.current.bus.memory address count
IsShown (query.Disassemble address offset count) counting client v = v
    ≡ disassembled client.mon client.files.items counting address offset count
IsShown (query.GotoTargets path line) counting client v = AreTargets counting
    client.mon.places.lines client.files.items path.now line v
IsShown (query.BreakpointLocations path line end) counting client v = AreLocations counting
    client.mon.places.lines client.files.items path.now line end v
IsShown query.LoadedSources counting client v = v ≡ sources_shown client.files.items
IsShown (query.DataBreakpointInfo scope name count is_address) counting client v
    = IsData client.mon scope name.now count is_address v
IsShown (query.Completions text column) counting client v
    = v ≡ completions counting client.mon.places.names text.now column
IsShown query.ExceptionInfo counting client v = v ≡ exception_body (string_bytes client.told.words)
IsShown query.SetExceptionBreakpoints counting client v = v ≡ breakpoints_body []
IsShown query.Pause counting client v = v ≡ nothing
IsShown query.Cancel counting client v = v ≡ nothing

abbrev pub Shows : Query → Counting → Client → List Said → Type 0
Shows query counting client said
    = (v : SeenAnswer) × IsShown query counting client v × (said ≡ done v ∷ [])

-- ---- breakpoints of a kind

-- A list is held as the last one for watches.
abbrev pub HoldsBytes : Vec DataBreakpoint Global → Listed → Listed → Type 0
HoldsBytes listed old new = (new.last_bytes ≡ Some listed)
    × (new.last_lines ≡ old.last_lines) × (new.last_addresses ≡ old.last_addresses)
    × (new.last_functions ≡ old.last_functions) × (new.next ≡ old.next)

-- Those of a kind are replaced by those of a list, and each of these is told of. Of watches is told
-- whether their bytes are watched.
abbrev pub ListsAddresses : Counting → AddressList → Client → Client → SeenAnswer → Type 0
ListsAddresses counting listed old new v = SetsAddresses counting listed
    old.listed.addresses.items new.listed.addresses.items old.mon new.mon v
    × KeepsEvents old.mon new.mon × HoldsAddresses listed old.listed new.listed

abbrev pub ListsFunctions : Counting → FunctionList → Client → Client → SeenAnswer → Type 0
ListsFunctions counting listed old new v = SetsFunctions counting listed
    old.listed.functions.items new.listed.functions.items old.mon new.mon v
    × KeepsEvents old.mon new.mon × HoldsFunctions listed old.listed new.listed

abbrev pub ListsBytes : Vec DataBreakpoint Global → Client → Client → SeenAnswer → Type 0
ListsBytes listed old new v = SetsWatches listed.items old.mon new.mon
    × KeepsBreaks old.mon new.mon
    × TellsWatches listed.items new.mon.stops.watches.items v
    × HoldsBytes listed old.listed new.listed

-- They get the next numbers. Those of a file are not set if it is none of the source.
abbrev pub with_reserved : ℕ → Client → Client
with_reserved count client = record client { listed = reserving count client.listed }

abbrev pub SetsSourceOf : Counting → List ℕ → LineList → Client → Client → SeenAnswer → Type 0
SetsSourceOf counting path listed old new v = SetsSource counting old.files.items path listed
    old.listed new.listed old.mon new.mon v × KeepsEvents old.mon new.mon

abbrev pub SetsListed : Breakpoints → Counting → Client → Client → SeenAnswer → Type 0
SetsListed (kind.Source path listed) counting old new v = SetsSourceOf counting path.now
    (lines_of old.listed listed) (with_reserved (length listed.items) old) new v
SetsListed (kind.Instruction listed) counting old new v = ListsAddresses counting
    (addresses_of old.listed listed) (with_reserved (length listed.items) old) new v
SetsListed (kind.Function listed) counting old new v = ListsFunctions counting
    (functions_of old.listed listed) (with_reserved (length listed.items) old) new v
SetsListed (kind.Data listed) counting old new v = ListsBytes listed old new v

abbrev pub Sets : Breakpoints → Counting → Client → Client → List Said → Type 0
Sets listed counting old new said
    = (v : SeenAnswer) × SetsListed listed counting old new v × (said ≡ done v ∷ [])

-- ---- a session that begins again from its file

-- Events, names, lines, and what is shown at each stop are what they were.
abbrev pub KeepsMade : MonState → MonState → Type 0
KeepsMade old new = (new.events ≡ old.events) × (new.places ≡ old.places)
    × (new.displays ≡ old.displays)

-- The last list of a kind is set as it was asked for, if there was one.
abbrev pub SetsAgain : {L : Type 0} → (L → Client → Client → SeenAnswer → Type 0) → Option L → Client → Client
    → Type 0
SetsAgain Lists None old new = new ≡ old
SetsAgain Lists (Some listed) old new = (v : SeenAnswer) × Lists listed old new v

-- So are those of all files that were listed, in their order, in the files with the same paths.
abbrev pub SetsFileAgain : Counting → List FilePath → FileLines → Client → Client → Type 0
SetsFileAgain counting files listed old new = (v : SeenAnswer)
    × SetsSourceOf counting (path_at files listed.file) listed.lines old new v

abbrev pub SetsFilesAgain : Counting → List FilePath → List FileLines → Client → Client → Type 0
SetsFilesAgain counting files [] old new = new ≡ old
SetsFilesAgain counting files (listed ∷ rest) old new = (between : Client)
    × SetsFileAgain counting files listed old between
    × SetsFilesAgain counting files rest between new

-- So are the last lists of all kinds, with the numbers that they had.
abbrev pub with_next : ℕ → Client → Client
with_next n client = record client { listed = record client.listed { next = n } }

abbrev pub SetsAllAgain : Listed → List FilePath → Counting → Client → Client → Type 0
SetsAllAgain held files counting old new = (lines : Client) × (addresses : Client)
    × (functions : Client)
    × SetsFilesAgain counting files held.last_lines.items (with_next held.next old) lines
    × SetsAgain (ListsAddresses counting) held.last_addresses lines addresses
    × SetsAgain (ListsFunctions counting) held.last_functions addresses functions
    × SetsAgain ListsBytes held.last_bytes functions new

-- It begins by the launch of another, and has the breakpoints and the watches that the client has
-- listed there last.
abbrev pub BeginsAgain : Counting → Client → Client → Type 0
BeginsAgain counting old new = (begun : Client) × IsLaunched (launch_view old.launch) begun
    × SetsAllAgain old.listed old.files.items counting begun new × KeepsMade begun.mon new.mon
    × (new.launch ≡ begun.launch)

-- The machine stands where a session stands first.
abbrev pub Restarts : Counting → Client → Client → List Said → Type 0
Restarts counting old new said
    = (begun : Client) × BeginsAgain counting old begun × Begins begun new said

-- ---- all requests of a session

-- The program is said to have ended.
abbrev pub ended : Client → Client
ended client = record client { told = record client.told { is_over = true } }

abbrev pub Terminates : List Said → Type 0
Terminates said = said ≡ done nothing ∷ event terminated ∷ []

-- A move is made, which goes on past log points, and it is told why the machine stands.
abbrev pub go_answer : List Said
go_answer = done continued ∷ []

abbrev pub Moves : Move → Client → Client → List Said → Type 0
Moves way old new said = (first : Client) × (so_far : List Said)
    × Makes way go_answer old first so_far
    × PassesLogs (further_of way old.mon) first so_far new said

-- A change is made, which can be undone, and what it has done is told.
abbrev pub HasChangedBy : Change → Counting → Client → Client → List Said → Type 0
HasChangedBy (change.Evaluate text is_console frame) counting old new said
    = Evaluates is_console frame text.now old new said
HasChangedBy (change.SetVariable scope name value) counting old new said
    = HasChanged (change_asked scope name.now value.now old.mon) old.mon new.mon
    × TellsValue counting scope name.now old.mon new.mon said
HasChangedBy (change.Goto target) counting old new said
    = Goes target old.mon new.mon × TellsGone old new.mon said
HasChangedBy (change.WriteMemory place text is_partial) counting old new said
    = Writes counting place text.now is_partial old.mon new.mon said

unfoldable pub AreAnswers : SessionRequest → Counting → Client → Client → List Said → Type 0
AreAnswers (to.Moves way) counting old new said = Moves way old new said
AreAnswers to.ConfigurationDone counting old new said = Begins old new said
AreAnswers (to.Sets listed) counting old new said = Sets listed counting old new said
AreAnswers (to.Changes change) counting old new said = HasChangedBy change counting old new said
AreAnswers (to.Shows query) counting old new said = (new ≡ old) × Shows query counting old said
AreAnswers to.Restart counting old new said = Restarts counting old new said
AreAnswers to.Terminate counting old new said = (new ≡ ended old) × Terminates said
AreAnswers to.NoThread counting old new said = ⊥
AreAnswers to.Other counting old new said = ⊥

-- So it is answered as long as the program is not said to have ended.
abbrev pub AreOpenAnswers : SessionRequest → Counting → Client → Client → List Said → Type 0
AreOpenAnswers asked counting old new said
    = (old.told.is_over ≡ false) × AreAnswers asked counting old new said

-- ---- a run that goes on

-- A request that lets the machine run: `continue`, and `configurationDone`, after which the machine
-- is told to stand before the first instruction where it is to stand there.
abbrev pub lets_run : SessionRequest → Bool
lets_run (to.Moves move.Go) = true
lets_run to.ConfigurationDone = true
lets_run asked = false

abbrev pub is_no_stop : Reason → Bool
is_no_stop NoStop = true
is_no_stop other = false

-- A run goes on if nothing has stopped it so far.
abbrev pub goes_on : Bool → Client → Bool
goes_on is_run client = is_run && is_no_stop client.told.reason
