-- A run of steps: how it ends, and where it leads. Both are defined for any step, and then for the
-- machine's. Source: mos65.
use Rattle.std.specs.Prelude.{ℕ, ◌≡◌, ◌-◌, zero, suc, not, ◌==◌, nat_eq, nat_le, if◌then◌else◌, min, List, [], ◌∷◌, filter, slice_index, Option, Some, None, unwrap_or, Result, Ok, Err}
use Rattle.std.specs.List.{list_any}
use Rattle.std.specs.Option.{option_map, option_map_or, option_or}
use Rattle.model.specs.State.{State}
use Rattle.model.specs.Step.{step}
use Rattle.model.specs.Session.{Session, with_state}
use Rattle.model.specs.declared.event.EventFault.{EventFault}
use Rattle.model.specs.declared.run_end.Why.{Why}
use Rattle.model.specs.declared.run_end.Why.TheVariants.{Watch, Break, Limit, Refused}
use Rattle.model.specs.declared.run_end.RunEnd.{RunEnd}

-- What a step gives: the next state, or why it is rejected.
abbrev pub OneStep : Type 0
OneStep = State → Result State EventFault

-- ---- what ends a run after a step

-- The lowest of some addresses.
abbrev pub lowest : List ℕ → Option ℕ
lowest [] = None
lowest (a ∷ rest) = Some (option_map_or (min a) (lowest rest) a)

-- The watched addresses whose byte of memory differs between two states.
abbrev pub changed_addresses : List ℕ → State → State → List ℕ
changed_addresses watches before after
    = filter (λ a. not (slice_index before.bus.memory a == slice_index after.bus.memory a)) watches

-- A step that changes a watched byte: the lowest such address is named.
unfoldable pub watch_met : List ℕ → State → State → Option Why
watch_met watches before after = option_map Watch (lowest (changed_addresses watches before after))

-- A step that leads to a breakpoint.
unfoldable pub break_met : List ℕ → State → State → Option Why
break_met breaks before after = if list_any (nat_eq after.regs.pc) breaks
    then Some (Break after.regs.pc) else None

-- Why a run ends after a step from one state to another, if it does: a watchpoint is named before a
-- breakpoint.
unfoldable pub stop_of : Session → State → State → Option Why
stop_of s before after
    = option_or (watch_met s.watches before after) (break_met s.breaks before after)

-- ---- the four ends

-- One step more before an end.
abbrev pub one_later : RunEnd → RunEnd
one_later end = record { did = suc end.did; why = end.why }

-- The first of n steps that meets something. A rejected step meets nothing, and no step comes after
-- it.
abbrev pub met_now_or_later : Option Why → Option RunEnd → Option RunEnd
met_now_or_later (Some why) rest = Some (record { did = 1; why = why })
met_now_or_later None rest = option_map one_later rest

abbrev pub met_if_made : (State → State → Option Why) → State → Result State EventFault
    → (State → Option RunEnd) → Option RunEnd
met_if_made met before (Ok after) rest = met_now_or_later (met before after) (rest after)
met_if_made met before (Err fault) rest = None

unfoldable pub first_met : OneStep → (State → State → Option Why) → ℕ → State → Option RunEnd
first_met one met zero s = None
first_met one met (suc n) s = met_if_made met s (one s) (λ t. first_met one met n t)

-- The first rejected step of n, which is not counted.
abbrev pub refused_now_or_later : Result State EventFault → (State → Option RunEnd) → Option RunEnd
refused_now_or_later (Ok after) rest = option_map one_later (rest after)
refused_now_or_later (Err fault) rest = Some (record { did = 0; why = Refused fault })

unfoldable pub first_refused : OneStep → ℕ → State → Option RunEnd
first_refused one zero s = None
first_refused one (suc n) s = refused_now_or_later (one s) (λ t. first_refused one n t)

-- ---- the run

-- The end that comes after fewer steps, the first of both if they come after equally many.
abbrev pub sooner : Option RunEnd → RunEnd → RunEnd
sooner None b = b
sooner (Some a) b = if nat_le a.did b.did then a else b

-- How a run of n steps ends: with the first of a step that changes a watched byte, a step that
-- leads to a breakpoint, a rejected step, and the limit of n steps. Of several that come after
-- equally many steps, the reason is the first in this order.
unfoldable pub run_end_by : OneStep → ℕ → Session → RunEnd
run_end_by one n s =
    sooner (first_met one (watch_met s.watches) n s.current)
    (sooner (first_met one (break_met s.breaks) n s.current)
    (unwrap_or (first_refused one n s.current) (record { did = n; why = Limit })))

abbrev pub run_end : ℕ → Session → RunEnd
run_end n s = run_end_by step n s

-- The session after k steps, or after as many as are made before a rejected one.
abbrev pub after_step : Session → Result State EventFault → (Session → Session) → Session
after_step s (Ok state) rest = rest (with_state s state)
after_step s (Err fault) rest = s

unfoldable pub after_steps_by : OneStep → ℕ → Session → Session
after_steps_by one zero s = s
after_steps_by one (suc k) s = after_step s (one s.current) (λ t. after_steps_by one k t)

abbrev pub after_steps : ℕ → Session → Session
after_steps k s = after_steps_by step k s

-- The session after a run of n steps.
abbrev pub after_run : ℕ → Session → Session
after_run n s = after_steps (run_end n s).did s

-- The session with no breakpoint and no watchpoint set.
abbrev pub without_stops : Session → Session
without_stops s = record s { breaks = []; watches = [] }

-- A run that was cut short and continued, with no breakpoint and no watchpoint set, ends where one
-- run with none set ends, and for its reason.
abbrev pub CutRunGoesOn : Type 0
CutRunGoesOn = (n : ℕ) (s : Session) →
    (after_run (n - (run_end n s).did) (without_stops (after_run n s)) ≡ after_run n (without_stops s))
    × ((run_end (n - (run_end n s).did) (without_stops (after_run n s))).why ≡ (run_end n (without_stops s)).why)

-- As many steps as a run made, asked for with no breakpoint and no watchpoint set, are made, and
-- lead to the same states.
abbrev pub RunCanBeRepeated : Type 0
RunCanBeRepeated = (n : ℕ) (s : Session) →
    (run_end (run_end n s).did (without_stops s) ≡ record { did = (run_end n s).did; why = Limit })
    × (after_run (run_end n s).did (without_stops s) ≡ without_stops (after_run n s))
