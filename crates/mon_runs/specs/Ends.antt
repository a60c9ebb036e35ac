-- When a run ends. Source: mos65.
use Rattle.std.specs.Prelude.{ℕ, ◌==◌, ◌||◌, Bool, true, false, if◌then◌else◌, List, Option, Some, None}
use Rattle.model.specs.State.{State}
use Rattle.model.specs.declared.run_end.Why.{Why}
use Rattle.model.specs.declared.run_end.Why.TheVariants as why
use Rattle.mon_runs.specs.Stops.{after_visit, stops_at}
use Rattle.mon_runs.specs.declared.breaks.Break.{Break}

-- Whether an address is the one that is run to.
abbrev pub is_to : Option ℕ → ℕ → Bool
is_to None at = false
is_to (Some address) at = address == at

-- Whether a run ends for this reason: at a break it does where it runs to that address, or where the
-- visit stops it.
abbrev pub is_end : Option ℕ → Why → State → List Break → Bool
is_end until why.Limit state breaks = false
is_end until (why.Break at) state breaks = is_to until at || stops_at at breaks state
is_end until (why.Watch address) state breaks = true
is_end until (why.Refused fault) state breaks = true

-- The breaks after that: the one there was visited, unless the run is to its address.
abbrev pub breaks_after : Option ℕ → Why → State → List Break → List Break
breaks_after until why.Limit state breaks = breaks
breaks_after until (why.Break at) state breaks =
    if is_to until at then breaks else after_visit at breaks state
breaks_after until (why.Watch address) state breaks = breaks
breaks_after until (why.Refused fault) state breaks = breaks
