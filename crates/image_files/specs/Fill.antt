-- Fill at the port of a map: one byte at all of its four addresses, as where an EPROM is erased.
-- Where the words say so, an image is loaded without it. Our own rule. Source: mos65.
use Rattle.std.specs.Prelude.{◌≡◌, ◌+◌, ◌<◌, ◌==◌, ◌&&◌, ℕ, Bool, true, false, if◌then◌else◌, List, Option, None, Some}
use Rattle.model.specs.Image.{cell_at}
use Rattle.model.specs.State.{Map, has_port_byte, is_port}

-- Two cells have the same byte, or none.
abbrev pub are_same : Option ℕ → Option ℕ → Bool
are_same None None = true
are_same None (Some d) = false
are_same (Some b) None = false
are_same (Some b) (Some d) = b == d

-- An image has at the port's base what it has so many addresses behind it.
abbrev pub is_as_first : Map → List (Option ℕ) → ℕ → Bool
is_as_first bus_map image offset
    = are_same (cell_at image bus_map.port) (cell_at image (bus_map.port + offset))

-- An image has one byte at all of the port's four addresses.
abbrev pub is_filled : Map → List (Option ℕ) → Bool
is_filled bus_map image = has_port_byte bus_map image && (is_as_first bus_map image 1
    && (is_as_first bus_map image 2 && is_as_first bus_map image 3))

-- The base of the port whose fill is left out, if some is.
abbrev pub fill_at : Bool → Map → List (Option ℕ) → Option ℕ
fill_at omits bus_map image = if omits && is_filled bus_map image then Some bus_map.port else None

-- An image without what it has at the port.
abbrev pub IsWithoutPort : Map → List (Option ℕ) → List (Option ℕ) → Type 0
IsWithoutPort bus_map whole image = (address : ℕ) → address < 65536
    → cell_at image address ≡ (if is_port bus_map address then None else cell_at whole address)

-- What is loaded of an image: all of it, or all but its fill at the port.
abbrev pub IsKept : Map → List (Option ℕ) → Option ℕ → List (Option ℕ) → Type 0
IsKept bus_map whole None image = image ≡ whole
IsKept bus_map whole (Some base) image = IsWithoutPort bus_map whole image

-- What is loaded of an image, and the base of the port whose fill is left out of it.
abbrev pub IsSpared : Bool → Map → List (Option ℕ) → Option ℕ → List (Option ℕ) → Type 0
IsSpared omits bus_map whole fill image
    = (fill ≡ fill_at omits bus_map whole) × IsKept bus_map whole fill image
