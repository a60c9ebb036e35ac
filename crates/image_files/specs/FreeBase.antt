-- Where a port would meet no byte of an image, nor memory below its first byte, which may be RAM of
-- its program. Our own rule. Source: mos65.
use Rattle.std.specs.Prelude.{◌≡◌, ◌<◌, ℕ, true, false, is_none, List, Option, None, Some}
use Rattle.std.specs.List.{prefix_len}
use Rattle.model.specs.State.{has_port_byte, is_map}
use Rattle.model.specs.declared.instruction.Profile.TheVariants.{N}

-- A port with this base makes a map with the ROM, and the image has no byte there.
abbrev pub IsClear : Option (ℕ × ℕ) → List (Option ℕ) → ℕ → Type 0
IsClear rom image base = (is_map rom base ≡ true)
    × (has_port_byte (record { profile = N; rom = rom; port = base }) image ≡ false)

-- A port can have this base, and the first byte of the image is below it.
abbrev pub IsFree : Option (ℕ × ℕ) → List (Option ℕ) → ℕ → Type 0
IsFree rom image base = (prefix_len is_none image < base) × IsClear rom image base

-- The lowest such base among the addresses, or none where there is none.
abbrev pub IsFreeBase : Option (ℕ × ℕ) → List (Option ℕ) → Option ℕ → Type 0
IsFreeBase rom image None = (base : ℕ) → base < 65536 → IsFree rom image base → ⊥
IsFreeBase rom image (Some base) = IsFree rom image base
    × ((lower : ℕ) → lower < base → IsFree rom image lower → ⊥)
