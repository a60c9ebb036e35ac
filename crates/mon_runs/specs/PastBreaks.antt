-- The runs, and how one of so many steps goes on past breaks whose tests do not hold. Source: mos65.
use Rattle.std.specs.Prelude.{ℕ, ◌+◌, ◌-◌, ◌%◌, ◌==◌, ◌||◌, zero, suc, min, nat_le, Bool, true, false, if◌then◌else◌, List, Option, Some, None, Result, Ok, Err}
use Rattle.std.specs.List.{list_all}
use Rattle.std.specs.Option.{option_map}
use Rattle.model.specs.Breakpoints.{break_set}
use Rattle.model.specs.Run.{run_end, after_run}
use Rattle.model.specs.Session.{Session}
use Rattle.model.specs.declared.run_end.Why.{Why}
use Rattle.model.specs.declared.run_end.Why.TheVariants as why
use Rattle.model.specs.declared.session_fault.SessionFault.{SessionFault}
use Rattle.model.specs.declared.session_fault.SessionFault.TheVariants.{AlreadySet}
use Rattle.mon_runs.specs.Ends.{is_end}
use Rattle.mon_runs.specs.Goals.{opcode_at_pc, without_break}
use Rattle.mon_runs.specs.Looked.{Arrival, Place, after_stretch, ended_or, looked_run}
use Rattle.mon_runs.specs.declared.ended.EndWhy.{EndWhy}
use Rattle.mon_runs.specs.declared.ended.EndWhy.TheVariants as end_why
use Rattle.mon_runs.specs.declared.looked.Goal.TheVariants.{Behind, Left, Rest, Never}
use Rattle.mon_runs.specs.Stops.{is_change}
use Rattle.mon_runs.specs.declared.watches.Watch.{Watch}

-- ---- so many steps

-- Why a run of `left` steps ends with its next stretch, a run of the session, if it does.
abbrev pub why_of_stretch : ℕ → Place → Option Why
why_of_stretch left place =
    let end = run_end left place.0 in
    if is_end None end.why (after_run left place.0).current place.1 then Some end.why
    else if end.did == 0 || nat_le left end.did then Some why.Limit else None

abbrev pub as_stopped : Why → EndWhy
as_stopped reason = end_why.Stopped reason

-- A run of `left` steps in up to n stretches.
unfoldable pub run_past : ℕ → ℕ → Place → Arrival
run_past zero left place = (record { did = 0; why = end_why.Many; from = None }, place)
run_past (suc n) left place = ended_or (option_map as_stopped (why_of_stretch left place))
    (run_end left place.0).did None (after_stretch None left place)
    (run_past n (left - (run_end left place.0).did) (after_stretch None left place))

-- ---- the runs

-- Whether only changes of bytes are watched.
abbrev pub are_changes : List Watch → Bool
are_changes watches = list_all is_change watches

-- The most steps of a run that nobody gave a number of steps.
abbrev pub most_steps : ℕ
most_steps = 5000000

-- A JSR as one: steps until its subroutine has returned, so that the program counter is behind the
-- JSR and the stack pointer is what it was. Any other instruction is one step.
unfoldable pub over_run : List Watch → Place → Arrival
over_run watches place =
    let regs = place.0.current.regs in
    if opcode_at_pc place.0.current == 0x20
    then looked_run watches (Behind ((regs.pc + 3) % 65536) regs.s) None most_steps place
    else looked_run watches Never None 1 place

-- Out of the subroutine that is running.
unfoldable pub out_run : List Watch → Place → Arrival
out_run watches place
    = looked_run watches (Left place.0.current.regs.s) None most_steps place

-- To a stop, or to where the program rests.
unfoldable pub go_run : List Watch → Place → Arrival
go_run watches place = looked_run watches Rest None most_steps place

-- Why a run of so many steps ends that looked at as many: as at its limit.
abbrev pub if_all : Bool → EndWhy → EndWhy
if_all true end_why.Many = end_why.Stopped why.Limit
if_all true end_why.Met = end_why.Met
if_all true (end_why.Stopped reason) = end_why.Stopped reason
if_all true (end_why.Read address) = end_why.Read address
if_all true (end_why.Written address) = end_why.Written address
if_all true (end_why.Changed change) = end_why.Changed change
if_all true end_why.Stuck = end_why.Stuck
if_all true end_why.NoHandler = end_why.NoHandler
if_all true end_why.Waits = end_why.Waits
if_all false why = why

abbrev pub all_made : ℕ → Arrival → Arrival
all_made count arrival = (
  record {
    did = arrival.0.did;
    why = if_all (arrival.0.did == count) arrival.0.why;
    from = arrival.0.from;
  },
  arrival.1,
)

-- So many steps.
unfoldable pub count_run : ℕ → List Watch → Place → Arrival
count_run count watches place = if are_changes watches then run_past count count place
    else all_made count (looked_run watches Never None (min count 10000000) place)

-- To an address: a breakpoint of the session stands there while the run goes on. One that was set
-- before stays set. Where 256 others are set the run is refused.
abbrev pub to_address : ℕ → List Watch → Place → Arrival
to_address address watches place
    = looked_run watches Rest (Some address) most_steps place

abbrev pub cleared_at : ℕ → Arrival → Arrival
cleared_at address arrival = (arrival.0, (without_break address arrival.1.0, arrival.1.1))

abbrev pub until_by : ℕ → List Watch → Place → Result Session SessionFault
    → Result Arrival SessionFault
until_by address watches place (Ok t)
    = Ok (cleared_at address (to_address address watches (t, place.1)))
until_by address watches place (Err AlreadySet) = Ok (to_address address watches place)
until_by address watches place (Err fault) = Err fault

unfoldable pub until_run : ℕ → List Watch → Place → Result Arrival SessionFault
until_run address watches place
    = until_by address watches place (break_set address place.0)
