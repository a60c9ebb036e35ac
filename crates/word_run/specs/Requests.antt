-- When a writer is interrupted. Source: mos65.
use Rattle.std.specs.Prelude.{◌≡◌, ℕ, List, [], ◌∷◌, Option, Some, None}
use Rattle.std.specs.Io.KnownBytes.{Consumes, Keeps}

-- There is a reader, and a byte was read from it.
abbrev pub Came : {S : Type 0} → (S → Option (List ℕ)) → Option S → Option S → Type 0
Came {S} remaining old new = (before : S) × (after : S) × (byte : ℕ) × (old ≡ Some before)
    × (new ≡ Some after) × Consumes (remaining before) (remaining after) (byte ∷ [])

-- If there is a reader, nothing was read from it.
abbrev pub NoneCame : {S : Type 0} → (S → Option (List ℕ)) → Option S → Option S → Type 0
NoneCame remaining None new = new ≡ None
NoneCame {S} remaining (Some before) new
    = (after : S) × (new ≡ Some after) × Keeps (remaining before) (remaining after)
