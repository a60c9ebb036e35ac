-- What is said of lines that run. Source: mos65.
use Rattle.std.specs.Prelude.{ℕ, ◌==◌, ◌&&◌, zero, suc, nat_le, nat_lt, Bool, false, if◌then◌else◌, List, [], ◌++◌, length, Option, Some, None, Result, Ok, Err, codes, decimal}
use Rattle.model.specs.Session.{Session}
use Rattle.model.specs.State.{State}
use Rattle.model.specs.Step.{entry_due}
use Rattle.model.specs.declared.event.EventFault.{EventFault}
use Rattle.model.specs.declared.run_end.Why.TheVariants as why
use Rattle.model.specs.declared.session_fault.SessionFault.{SessionFault}
use Rattle.mon_session.specs.EventTexts.{rejected_text, row_or_entry, shown_text}
use Rattle.mon_runs.specs.Looked.{Arrival}
use Rattle.mon_runs.specs.PastBreaks.{count_run, go_run, out_run, over_run, until_run}
use Rattle.mon_runs.specs.declared.ended.EndWhy.{EndWhy}
use Rattle.mon_runs.specs.declared.ended.EndWhy.TheVariants as end_why
use Rattle.mon_runs.specs.declared.ended.Ended.{Ended}
use Rattle.mon_runs.specs.declared.watches.Watch.{Watch}
use Rattle.accesses.specs.Footprint.{stores_here}
use Rattle.mon_instructions.specs.Made.{made_line, made_row}
use Rattle.mon_instructions.specs.Places.{place_text}
use Rattle.mon_texts.specs.Screen.{output_since}
use Rattle.mon_instructions.specs.Stores.{stores_text}
use Rattle.mon_steps.specs.Reasons.{after_text, end_line}
use Rattle.mon_steps.specs.SourceLines.{line_here}
use Rattle.mon_steps.specs.Strays.{ended_text}
use Rattle.mon_runs.specs.Goals.{opcode_at_pc}
use Rattle.source_map.specs.Lines.{PlacesView}
use Rattle.source_map.specs.Names.{Named}
use Rattle.mon_steps.specs.declared.endings.Begun.{Begun}
use Rattle.mon_steps.specs.RunLines.{Stand, goes_on, is_limit, ran, start_of, stepped}
use Rattle.mon_session.specs.declared.wording.TheConstants.{BREAKS_FULL}
use Rattle.mon_steps.specs.declared.wording.TheConstants.{HERE, HISTORY, SHOWS_THEM}

-- ---- how a run has ended

-- That a run came to the address that was asked for, and the line of the source there.
abbrev pub here_text : State → PlacesView → ℕ → ℕ → List ℕ
here_text state places at did = HERE.now
    ++ (place_text places.names at ++ (after_text did ++ line_here state places))

-- What is noted of a state in which a run begins.
abbrev pub begun_of : State → Begun
begun_of state = record { cycles = state.cycles; output = length state.bus.out }

-- What the program put out since a run began, and the state with the cycles since.
abbrev pub since_text : State → List Named → Begun → List ℕ
since_text state names begun = output_since begun.output state.bus.out
    ++ shown_text state names (Some begun.cycles)

-- How a run has ended, and what it led to.
abbrev pub shown_end_text : State → PlacesView → Ended → Begun → List ℕ
shown_end_text state places end begun
    = end_line state places end ++ since_text state places.names begun

abbrev pub arrival_text : PlacesView → Begun → Arrival → List ℕ
arrival_text places begun arrival
    = shown_end_text arrival.1.0.current places arrival.0 begun

-- Where a line begins.
abbrev pub begun_at : Stand → Begun
begun_at stand = begun_of stand.0.0.current

-- ---- the lines that run

abbrev pub run_of : Option ℕ → List Watch → Stand → Arrival
run_of None watches stand = go_run watches (start_of stand)
run_of (Some count) watches stand = count_run count watches (start_of stand)

-- A run that is given a number of steps, or none.
abbrev pub run_text : Option ℕ → List Watch → PlacesView → Stand → List ℕ
run_text count watches places stand = ended_text stand.0.0.current places
    ++ arrival_text places (begun_at stand) (run_of count watches stand)

-- The way out of a subroutine.
abbrev pub out_text : List Watch → PlacesView → Stand → List ℕ
out_text watches places stand = ended_text stand.0.0.current places
    ++ arrival_text places (begun_at stand) (out_run watches (start_of stand))

-- Whether a run ended at a break at an address.
abbrev pub is_there : ℕ → EndWhy → Bool
is_there address end_why.Met = false
is_there address (end_why.Stopped (why.Break at)) = at == address
is_there address (end_why.Stopped why.Limit) = false
is_there address (end_why.Stopped (why.Watch at)) = false
is_there address (end_why.Stopped (why.Refused fault)) = false
is_there address end_why.Many = false
is_there address (end_why.Read at) = false
is_there address (end_why.Written at) = false
is_there address (end_why.Changed change) = false
is_there address end_why.Stuck = false
is_there address end_why.NoHandler = false
is_there address end_why.Waits = false

-- A run to an address that came there, or ended before.
abbrev pub shown_end_at_text : ℕ → State → PlacesView → Ended → Begun → List ℕ
shown_end_at_text address state places end begun = if is_there address end.why
    then here_text state places address end.did ++ since_text state places.names begun
    else shown_end_text state places end begun

abbrev pub if_arrived_text : ℕ → PlacesView → Begun → Result Arrival SessionFault → List ℕ
if_arrived_text address places begun (Ok arrival)
    = shown_end_at_text address arrival.1.0.current places arrival.0 begun
if_arrived_text address places begun (Err fault)
    = BREAKS_FULL.now

-- A run to an address.
abbrev pub until_text : ℕ → List Watch → PlacesView → Stand → List ℕ
until_text address watches places stand = ended_text stand.0.0.current places
    ++ if_arrived_text address places (begun_at stand) (until_run address watches (start_of stand))

-- ---- steps one by one

-- What is said behind the row of a step: nothing if the step met nothing.
abbrev pub behind_row : State → PlacesView → Ended → List ℕ
behind_row after places end = if is_limit end.why then [] else end_line after places end

-- The row of a step that was made, or the interrupt that was entered in its place, and what the
-- step met.
abbrev pub made_text : Bool → State → PlacesView → Ended → List ℕ → List ℕ
made_text is_entry after places end row
    = row_or_entry is_entry after places.names row ++ behind_row after places end

-- Why a step was rejected, if it was.
abbrev pub fault_in : EndWhy → Option EventFault
fault_in end_why.Met = None
fault_in (end_why.Stopped (why.Refused fault)) = Some fault
fault_in (end_why.Stopped why.Limit) = None
fault_in (end_why.Stopped (why.Break at)) = None
fault_in (end_why.Stopped (why.Watch at)) = None
fault_in end_why.Many = None
fault_in (end_why.Read at) = None
fault_in (end_why.Written at) = None
fault_in (end_why.Changed change) = None
fault_in end_why.Stuck = None
fault_in end_why.NoHandler = None
fault_in end_why.Waits = None

abbrev pub if_made : Option EventFault → List Named → List ℕ → List ℕ
if_made None names said = said
if_made (Some fault) names said = rejected_text names fault

-- A step that was made, or why it was rejected.
abbrev pub step_text : Bool → State → PlacesView → Ended → List ℕ → List ℕ
step_text is_entry after places end row
    = if_made (fault_in end.why) places.names (made_text is_entry after places end row)

-- The row of an instruction that was made, with what it has stored.
unfoldable pub step_row : State → State → PlacesView → List ℕ
step_row before after places = made_row before places before.regs.pc
    ++ (stores_text after.bus (stores_here before) ++ codes "\n")

abbrev pub one_step_text : List Watch → PlacesView → Stand → List ℕ
one_step_text watches places stand =
    let before = stand.0.0.current in
    let arrival = count_run 1 watches (start_of stand) in
    step_text (entry_due before) arrival.1.0.current places arrival.0
    (step_row before arrival.1.0.current places)

-- Up to n steps, to the first that is rejected or meets something.
unfoldable pub stepped_text : ℕ → List Watch → PlacesView → Stand → List ℕ
stepped_text zero watches places stand = []
stepped_text (suc n) watches places stand = one_step_text watches places stand
    ++ (if goes_on watches stand then stepped_text n watches places (ran 1 watches stand) else [])

-- Up to 20 steps are shown one by one.
abbrev pub few_steps_text : ℕ → List Watch → PlacesView → Stand → List ℕ
few_steps_text count watches places stand = stepped_text count watches places stand
    ++ since_text (stepped count watches stand).0.0.current places.names (begun_at stand)

-- Which line shows so many steps that were made, if as many events are held.
abbrev pub shows_them_text : ℕ → ℕ → List ℕ
shows_them_text did held = if nat_lt 0 did && nat_le did held
    then HISTORY.now ++ decimal did ++ SHOWS_THEM.now else []

abbrev pub many_end_text : Session → PlacesView → Ended → List ℕ
many_end_text session places end = end_line session.current places end
    ++ shows_them_text end.did (length session.earlier)

abbrev pub many_shown_text : Session → PlacesView → Ended → Begun → List ℕ
many_shown_text session places end begun
    = many_end_text session places end ++ since_text session.current places.names begun

-- More steps, which are not shown.
abbrev pub many_steps_text : ℕ → List Watch → PlacesView → Stand → List ℕ
many_steps_text count watches places stand =
    let arrival = count_run count watches (start_of stand) in
    many_shown_text arrival.1.0 places arrival.0 (begun_at stand)

abbrev pub steps_text : ℕ → List Watch → PlacesView → Stand → List ℕ
steps_text count watches places stand = if nat_lt 20 count
    then many_steps_text count watches places stand
    else few_steps_text count watches places stand

abbrev pub some_steps_text : ℕ → List Watch → PlacesView → Stand → List ℕ
some_steps_text count watches places stand
    = ended_text stand.0.0.current places ++ steps_text count watches places stand

-- ---- a JSR as one step

-- The row of a JSR, or the interrupt that was entered in its place, which is one step.
abbrev pub call_row : ℕ → Bool → State → List Named → List ℕ → List ℕ
call_row did is_entry after names row = if did == 1
    then row_or_entry is_entry after names row else row

unfoldable pub called_row : List Watch → PlacesView → Stand → List ℕ
called_row watches places stand =
    let before = stand.0.0.current in
    let arrival = over_run watches (start_of stand) in
    call_row arrival.0.did (entry_due before) arrival.1.0.current places.names
    (made_line before places before.regs.pc)

abbrev pub call_text : List Watch → PlacesView → Stand → List ℕ
call_text watches places stand = called_row watches places stand
    ++ arrival_text places (begun_at stand) (over_run watches (start_of stand))

-- A JSR, or one step.
abbrev pub over_text : List Watch → PlacesView → Stand → List ℕ
over_text watches places stand = if opcode_at_pc stand.0.0.current == 0x20
    then call_text watches places stand
    else ended_text stand.0.0.current places ++ few_steps_text 1 watches places stand
