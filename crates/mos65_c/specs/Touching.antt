-- What the instruction at PC touches, as C is told, and a run to the first that touches some address.
-- Source: mos65.
use Rattle.std.specs.Prelude.{ℕ, ◌+◌, zero, suc, Bool, false, not, ◌==◌, ◌||◌, if◌then◌else◌, List, slice_index, Option, Some, None, is_some, unwrap_or}
use Rattle.model.specs.State.{State}
use Rattle.model.specs.Session.{Session}
use Rattle.model.specs.Run.{run_end, after_run}
use Rattle.model.specs.declared.run_end.RunEnd.{RunEnd}
use Rattle.model.specs.declared.run_end.Why.{Why}
use Rattle.model.specs.declared.run_end.Why.TheVariants.{Limit, Break, Watch, Refused}
use Rattle.accesses.specs.Access.{access_here}
use Rattle.cpu_step.specs.declared.access.Access.{Access}
use Rattle.mos65_c.specs.declared.touching.Touch.{Touch}

-- An access with 0 where there is no address.
abbrev pub touch_of : Access → Touch
touch_of access = record {
  read = unwrap_or access.read 0;
  store = unwrap_or access.store 0;
  reads = is_some access.read;
  stores = is_some access.store;
  pushes = access.pushes;
}

-- ---- a run to a marked address

-- An address is marked by a byte that is not 0.
abbrev pub is_marked : List ℕ → Option ℕ → Bool
is_marked marks None = false
is_marked marks (Some address) = not (slice_index marks address == 0)

abbrev pub touches : List ℕ → State → Bool
touches marks state
    = is_marked marks (access_here state).read || is_marked marks (access_here state).store

-- How a run ended, and the session then.
abbrev pub Arrival : Type 0
Arrival = RunEnd × Session

abbrev pub ended : ℕ → Why → Session → Arrival
ended did why s = (record { did = did; why = why }, s)

abbrev pub later : ℕ → Arrival → Arrival
later k arrival = ended (k + arrival.0.did) arrival.0.why arrival.1

-- After one step that led to a session the run goes on, unless the step has ended it.
abbrev pub ended_or : Why → Session → Arrival → Arrival
ended_or Limit t rest = later 1 rest
ended_or (Break address) t rest = ended 1 (Break address) t
ended_or (Watch address) t rest = ended 1 (Watch address) t
ended_or (Refused fault) t rest = ended 0 (Refused fault) t

-- A run of up to n steps, each a run of one. It ends too, with the reason Limit, before an instruction
-- that reads or stores at a marked address.
unfoldable pub touching_run : List ℕ → ℕ → Session → Arrival
touching_run marks zero s = ended 0 Limit s
touching_run marks (suc n) s = if touches marks s.current then ended 0 Limit s
    else ended_or (run_end 1 s).why (after_run 1 s) (touching_run marks n (after_run 1 s))
