-- Runs of single steps, each of which is looked at. Source: mos65; the stack page and the order of
-- what is pushed, MCS6500 manual, chapter 8.
use Rattle.std.specs.Prelude.{◌≡◌, ℕ, ◌+◌, ◌-◌, ◌%◌, zero, suc, Bool, true, false, if◌then◌else◌, List, Option, Some, None}
use Rattle.std.specs.Option.{option_map, option_or}
use Rattle.model.specs.State.{State}
use Rattle.model.specs.Session.{Session}
use Rattle.model.specs.Run.{run_end, after_run, after_steps}
use Rattle.model.specs.Step.{entry_due}
use Rattle.mon_runs.specs.Ends.{is_end, breaks_after}
use Rattle.mon_runs.specs.Rests.{rest_between}
use Rattle.mon_runs.specs.declared.ended.EndWhy.{EndWhy}
use Rattle.mon_runs.specs.declared.ended.EndWhy.TheVariants as end_why
use Rattle.mon_runs.specs.declared.ended.Ended.{Ended}
use Rattle.mon_runs.specs.declared.looked.Goal.{Goal}
use Rattle.mon_runs.specs.declared.looked.Goal.TheVariants.{Behind, Left, Rest, Never}
use Rattle.mon_runs.specs.declared.looked.Sight.{Sight}
use Rattle.mon_runs.specs.Stops.{Read, Write, has_access, register_change}
use Rattle.mon_runs.specs.declared.changes.RegisterChange.{RegisterChange}
use Rattle.mon_runs.specs.declared.breaks.Break.{Break}
use Rattle.mon_runs.specs.declared.watches.Watch.{Watch}
use Rattle.mon_runs.specs.Goals.{is_behind, has_left, opcode_at_pc}
use Rattle.accesses.specs.Access.{access_here}
use Rattle.cpu_step.specs.declared.access.Access.{Access}

-- ---- what ends a run after a step

-- Whether a step from one state to another meets a goal.
abbrev pub goal_met : Goal → State → State → Bool
goal_met (Behind pc stack) before after = is_behind pc stack before after
goal_met (Left stack) before after = has_left stack before after
goal_met Rest before after = false
goal_met Never before after = false

-- An address whose access of a kind is watched.
abbrev pub if_read : List Watch → Option ℕ → Option EndWhy
if_read watches None = None
if_read watches (Some address)
    = if has_access Read address watches then Some (end_why.Read address) else None

abbrev pub if_stored : List Watch → Option ℕ → Option EndWhy
if_stored watches None = None
if_stored watches (Some address)
    = if has_access Write address watches then Some (end_why.Written address) else None

-- Where a byte is pushed, if so many were pushed before it since the stack pointer was this.
abbrev pub pushed_to : ℕ → ℕ → ℕ
pushed_to stack depth = 256 + (stack + (256 - depth)) % 256

-- The first of the next n bytes pushed whose address is watched for writes.
unfoldable pub pushed_at : List Watch → ℕ → ℕ → ℕ → Option ℕ
pushed_at watches stack depth zero = None
pushed_at watches stack depth (suc n) = if has_access Write (pushed_to stack depth) watches
    then Some (pushed_to stack depth) else pushed_at watches stack (depth + 1) n

-- The access of a step that is watched: a read before a store, and a store before what is pushed.
abbrev pub watched : List Watch → Access → ℕ → Option EndWhy
watched watches access stack = option_or (if_read watches access.read)
    (option_or (if_stored watches access.store)
    (option_map end_why.Written (pushed_at watches stack 0 access.pushes)))

-- The same of the step from a state, unless it is an interrupt entry.
abbrev pub watched_from : List Watch → State → Option EndWhy
watched_from watches before = if entry_due before then None
    else watched watches (access_here before) before.regs.s

-- The change of a watched register by a step from one state to another. An interrupt that is entered
-- in its place changes registers too.
abbrev pub if_changed : Option RegisterChange → Option EndWhy
if_changed (Some change) = Some (end_why.Changed change)
if_changed None = None

abbrev pub changed_between : List Watch → State → State → Option EndWhy
changed_between watches before after
    = if_changed (register_change watches before.regs after.regs)

-- What is watched that a step has done: an access, or else a change of a register.
abbrev pub seen_between : List Watch → State → State → Option EndWhy
seen_between watches before after = option_or (watched_from watches before)
    (changed_between watches before after)

abbrev pub if_met : Bool → Option EndWhy
if_met true = Some end_why.Met
if_met false = None

-- Why a run ends where the program rests. A run that has no goal ends there too, but one of so many
-- steps does not.
abbrev pub rest_of : Goal → State → State → Option EndWhy
rest_of (Behind pc stack) before after = rest_between before after
rest_of (Left stack) before after = rest_between before after
rest_of Rest before after = rest_between before after
rest_of Never before after = None

-- Why a run ends after a step that did not end it by itself.
abbrev pub end_between : List Watch → Goal → State → State → Option EndWhy
end_between watches goal before after = option_or (seen_between watches before after)
    (option_or (if_met (goal_met goal before after)) (rest_of goal before after))

-- What a run sees of the state before a step.
abbrev pub sight_of : State → Sight
sight_of state = record {
  regs = state.regs;
  opcode = opcode_at_pc state;
  is_entry = entry_due state;
  access = access_here state;
}

-- ---- steps

-- A session, and the breaks with their visits.
abbrev pub Place : Type 0
Place = Session × List Break

-- How a run ended, and what is there then.
abbrev pub Arrival : Type 0
Arrival = Ended × Place

-- Why a run ends with its next step, if it does.
abbrev pub why_of_step : List Watch → Goal → Option ℕ → Place → Option EndWhy
why_of_step watches goal until place =
    let end = run_end 1 place.0 in
    let state = (after_run 1 place.0).current in
    if is_end until end.why state place.1 then Some (end_why.Stopped end.why)
    else end_between watches goal place.0.current state

-- What is there after a run of k steps of the session.
abbrev pub after_stretch : Option ℕ → ℕ → Place → Place
after_stretch until k place = (
  after_run k place.0,
  breaks_after until (run_end k place.0).why (after_run k place.0).current place.1,
)

-- So many steps more before a run ends.
abbrev pub later : ℕ → Arrival → Arrival
later k arrival = (
  record { did = k + arrival.0.did; why = arrival.0.why; from = arrival.0.from },
  arrival.1,
)

-- A run that made so many steps ends, or goes on. `from` is the program counter before the last of
-- them, if the run looked at each step.
abbrev pub ended_or : Option EndWhy → ℕ → Option ℕ → Place → Arrival → Arrival
ended_or (Some why) k from place rest = (record { did = k; why = why; from = from }, place)
ended_or None k from place rest = later k rest

-- Up to n steps, until one ends the run.
unfoldable pub looked_run : List Watch → Goal → Option ℕ → ℕ → Place → Arrival
looked_run watches goal until zero place
    = (record { did = 0; why = end_why.Many; from = None }, place)
looked_run watches goal until (suc n) place = ended_or (why_of_step watches goal until place)
    (run_end 1 place.0).did (Some place.0.current.regs.pc) (after_stretch until 1 place)
    (looked_run watches goal until n (after_stretch until 1 place))

-- A run leads where as many steps of the session lead: whatever its goal and its stops are, they
-- change no state.
abbrev pub LookedRunsAreSteps : Type 0
LookedRunsAreSteps = (watches : List Watch) (goal : Goal) (until : Option ℕ) (n : ℕ)
    (place : Place) → (looked_run watches goal until n place).1.0
    ≡ after_steps (looked_run watches goal until n place).0.did place.0
