-- What lines that run do to a session of `mon`. Source: mos65.
use Rattle.std.specs.Prelude.{ℕ, ◌≡◌, ◌==◌, zero, suc, nat_lt, Bool, true, false, if◌then◌else◌, List, [], ◌∷◌, Option, Some, None, Result, Ok, Err}
use Rattle.model.specs.Run.{after_steps}
use Rattle.model.specs.declared.run_end.Why.TheVariants as why
use Rattle.model.specs.declared.session_fault.SessionFault.{SessionFault}
use Rattle.mon_session.specs.Course.{Course, course_of}
use Rattle.mon_session.specs.declared.mon_state.MonState.{MonState}
use Rattle.mon_runs.specs.Looked.{Arrival, Place}
use Rattle.mon_runs.specs.PastBreaks.{count_run, go_run, out_run, over_run, until_run}
use Rattle.mon_runs.specs.declared.ended.EndWhy.{EndWhy}
use Rattle.mon_runs.specs.declared.ended.EndWhy.TheVariants as end_why
use Rattle.mon_runs.specs.declared.breaks.Break.{Break}
use Rattle.mon_runs.specs.declared.watches.Watch.{Watch}
use Rattle.mon_runs.specs.Goals.{opcode_at_pc}
use Rattle.mon_session.specs.Events.{with_steps}

-- ---- runs

-- A run was made, and its steps were noted.
abbrev pub IsRun : ℕ → Course → Course → Type 0
IsRun did before after = (after.0 ≡ after_steps did before.0) × (after.1 ≡ with_steps did before.1)

-- Runs were made one after another.
abbrev pub AreRuns : List ℕ → Course → Course → Type 0
AreRuns [] before after = after ≡ before
AreRuns (did ∷ rest) before after = (between : Course) × IsRun did before between
    × AreRuns rest between after

abbrev pub HasRun : Course → Course → Type 0
HasRun before after = (runs : List ℕ) × AreRuns runs before after

-- ---- where a run begins and ends

-- A session with its events, and the breaks with their visits.
abbrev pub Stand : Type 0
Stand = Course × List Break

abbrev pub stand_of : MonState → Stand
stand_of mon = (course_of mon, mon.stops.breaks.items)

-- Watches, names, lines, and what is shown at each stop are what they were.
abbrev pub KeepsWatches : MonState → MonState → Type 0
KeepsWatches old new = (new.stops.watches ≡ old.stops.watches)
    × (new.stops.changes ≡ old.stops.changes) × (new.places ≡ old.places)
    × (new.displays ≡ old.displays)

abbrev pub watches_of : MonState → List Watch
watches_of mon = mon.stops.watches.items

-- Where a run begins.
abbrev pub start_of : Stand → Place
start_of stand = (stand.0.0, stand.1)

-- A run was made from there, and its steps were noted.
abbrev pub arrived : Arrival → Stand → Stand
arrived arrival stand = ((arrival.1.0, with_steps arrival.0.did stand.0.1), arrival.1.1)

-- ---- the lines

-- A run of so many steps, or to a stop.
abbrev pub ran : ℕ → List Watch → Stand → Stand
ran count watches stand = arrived (count_run count watches (start_of stand)) stand

abbrev pub ran_on : List Watch → Stand → Stand
ran_on watches stand = arrived (go_run watches (start_of stand)) stand

-- A run that is given a number of steps, or none.
abbrev pub ran_by : Option ℕ → List Watch → Stand → Stand
ran_by (Some count) watches stand = ran count watches stand
ran_by None watches stand = ran_on watches stand

-- A JSR as one step, and the way out of a subroutine.
abbrev pub called : List Watch → Stand → Stand
called watches stand = arrived (over_run watches (start_of stand)) stand

abbrev pub returned : List Watch → Stand → Stand
returned watches stand = arrived (out_run watches (start_of stand)) stand

-- Whether a run of one step made it and met nothing.
abbrev pub is_limit : EndWhy → Bool
is_limit end_why.Met = false
is_limit (end_why.Stopped why.Limit) = true
is_limit (end_why.Stopped (why.Break address)) = false
is_limit (end_why.Stopped (why.Watch address)) = false
is_limit (end_why.Stopped (why.Refused fault)) = false
is_limit end_why.Many = false
is_limit (end_why.Read address) = false
is_limit (end_why.Written address) = false
is_limit (end_why.Changed change) = false
is_limit end_why.Stuck = false
is_limit end_why.NoHandler = false
is_limit end_why.Waits = false

abbrev pub goes_on : List Watch → Stand → Bool
goes_on watches stand = is_limit (count_run 1 watches (start_of stand)).0.why

-- Up to n steps, one by one, to the first that is rejected or meets something.
unfoldable pub stepped : ℕ → List Watch → Stand → Stand
stepped zero watches stand = stand
stepped (suc n) watches stand = if goes_on watches stand
    then stepped n watches (ran 1 watches stand) else ran 1 watches stand

-- Up to 20 steps are made one by one.
abbrev pub some_steps : ℕ → List Watch → Stand → Stand
some_steps count watches stand = if nat_lt 20 count then ran count watches stand
    else stepped count watches stand

-- A step over a JSR, or one step.
abbrev pub stepped_over : List Watch → Stand → Stand
stepped_over watches stand = if opcode_at_pc stand.0.0.current == 0x20 then called watches stand
    else stepped 1 watches stand

-- A run to an address, which changes nothing where it is refused.
abbrev pub if_arrived : Stand → Result Arrival SessionFault → Stand
if_arrived stand (Ok arrival) = arrived arrival stand
if_arrived stand (Err fault) = stand

abbrev pub ran_until : ℕ → List Watch → Stand → Stand
ran_until address watches stand = if_arrived stand (until_run address watches (start_of stand))
