-- What the session and the breaks are once one is set. Source: mos65.
use Rattle.std.specs.Prelude.{Bool, true, false, if◌then◌else◌, List, [], ◌∷◌, ◌++◌, Result, Ok, Err}
use Rattle.model.specs.Breakpoints.{break_set}
use Rattle.model.specs.Session.{Session}
use Rattle.model.specs.declared.session_fault.SessionFault.{SessionFault}
use Rattle.model.specs.declared.session_fault.SessionFault.TheVariants.{AlreadySet}
use Rattle.mon_runs.specs.Looked.{Place}
use Rattle.mon_runs.specs.Stops.{without}
use Rattle.mon_runs.specs.declared.breaks.Break.{Break}

-- The session after a call: the one that the call gives, or the same if the call is rejected.
abbrev pub or_same : Session → Result Session SessionFault → Session
or_same s (Ok t) = t
or_same s (Err fault) = s

-- Whether an address is in a table once it was to be set there. It may have been before.
abbrev pub is_set : Result Session SessionFault → Bool
is_set (Ok s) = true
is_set (Err AlreadySet) = true
is_set (Err fault) = false

-- A break in place of the first one at its address.
abbrev pub with_break : Break → List Break → List Break
with_break stop breaks = without stop.address breaks ++ stop ∷ []

-- A break is set in a session and among the breaks, in place of the one at its address. Nothing is
-- changed where the session has 256 others.
abbrev pub set_at : Break → Place → Place
set_at stop place = let given = break_set stop.address place.0 in
    (or_same place.0 given, if is_set given then with_break stop place.1 else place.1)

abbrev pub all_set : List Break → Place → Place
all_set [] place = place
all_set (stop ∷ rest) place = all_set rest (set_at stop place)
