-- What becomes of a session whose page is written. Source: mos65.
use Rattle.std.specs.Prelude.{length, get_or}
use Rattle.model.specs.Back.{states}
use Rattle.model.specs.Session.{Session}
use Rattle.model.specs.State.{State}
use Rattle.mon_session.specs.Course.{Course}
use Rattle.mon_steps.specs.BackLines.{remade, undone}

-- The oldest state that a session holds.
abbrev pub oldest : Session → State
oldest s = get_or (states s) 0 s.current

-- All events that are held are undone, and made again.
abbrev pub shown_again : Course → Course
shown_again course = let held = length course.0.earlier in remade held (undone held course)
