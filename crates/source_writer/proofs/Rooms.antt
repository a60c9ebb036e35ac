-- The room of a line, a byte at a time.
use Rattle.std.proofs.Common.{◌≡◌, ℕ, zero, suc, ◌+◌, ◌-◌, ◌<◌, List, Bool, true, false, refl, arith}
use Rattle.source_forms.specs.Pieces.{room, begins_line}

pub ends : (flags : List Bool) (left at next : ℕ) → 0 < left → next ≡ at + 1
    → begins_line flags next ≡ true → room flags left at ≡ 1
unfolding room
ends flags zero at next some here h = absurd (omega (arith, some))
ends flags (suc n) at next some here h = let e : begins_line flags (at + 1) ≡ true = rw here at h in rw e refl

pub goes_on : (flags : List Bool) (left at next : ℕ) → 0 < left → next ≡ at + 1
    → begins_line flags next ≡ false → room flags left at ≡ suc (room flags (left - 1) next)
unfolding room
goes_on flags zero at next some here h = absurd (omega (arith, some))
goes_on flags (suc n) at next some here h =
    let e : begins_line flags (at + 1) ≡ false = rw here at h in
    let one : suc n - 1 ≡ n = omega arith in
    rw (e, one, here) refl

pub none : (flags : List Bool) (at : ℕ) → room flags 0 at ≡ 0
unfolding room
none flags at = refl

-- whether one of so many addresses is flagged, an address at a time
