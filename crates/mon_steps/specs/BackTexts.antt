-- What is said of lines that go back. Source: mos65.
use Rattle.std.specs.Prelude.{ℕ, ◌==◌, zero, suc, min, nat_eq, nat_lt, Bool, false, if◌then◌else◌, List, [], ◌++◌, length, slice_get, Option, Some, None, Result, Ok, Err, codes}
use Rattle.std.specs.List.{list_any}
use Rattle.model.specs.State.{State}
use Rattle.model.specs.Step.{entry_due}
use Rattle.model.specs.Session.{Session}
use Rattle.model.specs.Back.{back_of}
use Rattle.model.specs.declared.event.Event.{Event}
use Rattle.model.specs.declared.event.Event.TheVariants.{Step, Set, Patch, Input, Irq, Nmi, Reset}
use Rattle.model.specs.declared.session_fault.SessionFault.{SessionFault}
use Rattle.mon_session.specs.Course.{Course}
use Rattle.mon_session.specs.EventTexts.{count_text, row_or_entry, shown_text}
use Rattle.mon_lines.specs.declared.command.Undoing.{Undoing}
use Rattle.mon_lines.specs.declared.command.Undoing.TheVariants.{Events, Over}
use Rattle.mon_runs.specs.Back.{back_over}
use Rattle.mon_instructions.specs.Made.{made_line}
use Rattle.mon_instructions.specs.Places.{place_text}
use Rattle.mon_runs.specs.Recall.{last_stop}
use Rattle.mon_runs.specs.declared.stops.Stops.{Stops}
use Rattle.source_map.specs.Lines.{PlacesView}
use Rattle.source_map.specs.Names.{Named}
use Rattle.mon_steps.specs.BackLines.{most_remade, remade, remade_one, undone}
use Rattle.mon_steps.specs.declared.wording.TheConstants.{BACK_AT_BREAK, BACK_AT_OLDEST, BACK_BEFORE_CHANGE, BYTE_HANDED_IN, EVENTS_HELD, EVENTS_REMADE, EVENTS_UNDONE, EVENT_HELD, EVENT_REMADE, EVENT_UNDONE, LINE_SET, MEMORY_CHANGED, NMI_ASKED_FOR, NONE_HELD, NOTHING_UNDONE, ONLY, REGISTER_SET, RESET_MADE, TOO_MANY_WATCHED}

-- That no event is held.
abbrev pub none_held : List ℕ
none_held = NONE_HELD.now

-- ---- back

-- The row of the instruction that comes next, by its line of the source, and the state.
abbrev pub arrived_text : State → PlacesView → List ℕ
arrived_text state places
    = made_line state places state.regs.pc ++ shown_text state places.names None

-- How many events were undone, and the state before them.
abbrev pub undone_text : ℕ → State → PlacesView → List ℕ
undone_text count state places
    = count_text count EVENT_UNDONE.now EVENTS_UNDONE.now ++ arrived_text state places

-- How many events can be undone.
abbrev pub only_text : ℕ → List ℕ
only_text held = ONLY.now
    ++ count_text held EVENT_HELD.now EVENTS_HELD.now

abbrev pub if_back_text : ℕ → PlacesView → Result Session SessionFault → List ℕ
if_back_text held places (Ok s) = arrived_text s.current places
if_back_text held places (Err fault) = only_text held

-- So many events are undone, or how many can be.
abbrev pub back_text : ℕ → PlacesView → Course → List ℕ
back_text count places course
    = if_back_text (length course.0.earlier) places (back_of count course.0)

-- One event is undone, or a whole subroutine.
abbrev pub over_text : PlacesView → Course → List ℕ
over_text places course
    = let way = back_over course.0 in undone_text way.0 way.1.current places

abbrev pub undoing_text : Undoing → PlacesView → Course → List ℕ
undoing_text (Events count) places course = back_text count places course
undoing_text Over places course = over_text places course

abbrev pub undo_text : Undoing → PlacesView → Course → List ℕ
undo_text undoing places course = if length course.0.earlier == 0 then none_held
    else undoing_text undoing places course

-- ---- back to a stop

-- Whether an address is this one, and whether the program counter is at a break.
abbrev pub is_this : ℕ → Option ℕ → Bool
is_this address None = false
is_this address (Some at) = nat_eq address at

unfoldable pub is_at_break : Session → Bool
is_at_break s = list_any (nat_eq s.current.regs.pc) s.breaks

abbrev pub at_break_text : List Named → ℕ → List ℕ
at_break_text names pc = BACK_AT_BREAK.now ++ place_text names pc

-- Where the way back has ended that undid so many events of those held.
abbrev pub way_text : List Named → Session → ℕ → ℕ → List ℕ
way_text names s count held = if is_at_break s
    then at_break_text names s.current.regs.pc
    else if count == held then BACK_AT_OLDEST.now
    else BACK_BEFORE_CHANGE.now

abbrev pub stop_text : Stops → PlacesView → Course → List ℕ
stop_text stops places course =
    let found = last_stop stops course.0 in
    way_text places.names found.1 found.0 (length course.0.earlier)
    ++ (codes ", " ++ undone_text found.0 found.1.current places)

abbrev pub undo_to_stop_text : Stops → PlacesView → Course → List ℕ
undo_to_stop_text stops places course = if nat_lt 256 (length stops.changes.items)
    then TOO_MANY_WATCHED.now
    else if length course.0.earlier == 0 then none_held
    else stop_text stops places course

-- ---- again

-- How many events were made again, and the state then, with the cycles since some.
abbrev pub made_again_text : ℕ → State → List Named → ℕ → List ℕ
made_again_text most state names cycles = if most == 0
    then NOTHING_UNDONE.now
    else count_text most EVENT_REMADE.now EVENTS_REMADE.now
    ++ shown_text state names (Some cycles)

abbrev pub again_text : ℕ → List Named → Course → List ℕ
again_text most names course
    = made_again_text most (remade most course).0.current names course.0.current.cycles

abbrev pub redo_text : Option ℕ → List Named → Course → List ℕ
redo_text count names course = again_text (most_remade count course.1.undone) names course

-- What an event is called that is no step.
abbrev pub event_words : Event → Option (List ℕ)
event_words Step = None
event_words (Set setting) = Some REGISTER_SET.now
event_words (Patch address bytes count)
    = Some MEMORY_CHANGED.now
event_words (Input byte) = Some BYTE_HANDED_IN.now
event_words (Irq level) = Some LINE_SET.now
event_words Nmi = Some NMI_ASKED_FOR.now
event_words Reset = Some RESET_MADE.now

abbrev pub words_or : List ℕ → Option (List ℕ) → List ℕ
words_or row None = row
words_or row (Some words) = words

-- The row of a step that was made again, or what another event is called.
abbrev pub remade_row : Option Event → List ℕ → List ℕ
remade_row None row = []
remade_row (Some event) row = words_or row (event_words event)

-- The next event that was undone, made again.
abbrev pub one_remade_text : PlacesView → Course → List ℕ
one_remade_text places course =
    let before = course.0.current in
    remade_row (slice_get course.1.undone 0) (row_or_entry (entry_due before)
    (remade_one course).0.current places.names
    (made_line before places before.regs.pc))

-- So many of them.
abbrev pub remade_text : ℕ → PlacesView → Course → List ℕ
remade_text zero places course = []
remade_text (suc n) places course = remade_text n places course
    ++ one_remade_text places (remade n course)

-- The last events: so many, or all that are held if they are fewer.
abbrev pub events_text : ℕ → PlacesView → Course → List ℕ
events_text zero places course = none_held
events_text (suc n) places course =
    let first = undone (suc n) course in
    remade_text (suc n) places first
    ++ shown_text (remade (suc n) first).0.current places.names None

abbrev pub history_text : ℕ → PlacesView → Course → List ℕ
history_text count places course
    = events_text (min count (length course.0.earlier)) places course
