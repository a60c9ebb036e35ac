-- Steps that are noted.
use Rattle.std.proofs.Common.{◌≡◌, ℕ, ◌<◌, min, zero, suc, List, [], ◌++◌, replicate, ap}
use Rattle.model.specs.declared.event.Event.{Event}
use Rattle.model.specs.declared.event.Event.TheVariants.{Step}
use Rattle.circular_buffer.specs.Buffer.{keep_last}
use Rattle.mon_session.specs.Events.{Kept, with_steps}
use Rattle.mon_session.proofs.Rings.{keep_last-min}

abbrev kept_of : List Event → List Event → ℕ → Kept
kept_of made undone room = record { made = made; undone = undone; room = room }

-- As many as there is room for are enough.
pub steps_noted : (n : ℕ) (made undone : List Event) (room : ℕ) → 0 < n
    → kept_of (keep_last room (made ++ replicate (min n room) Step)) [] room
    ≡ with_steps n (kept_of made undone room)
steps_noted zero made undone room h = elim h [ ]
steps_noted (suc n) made undone room h =
    ap (λ xs. kept_of xs [] room) (keep_last-min room (suc n) made Step)
