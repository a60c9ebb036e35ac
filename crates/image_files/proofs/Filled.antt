-- An image without what it has at the port has no byte there.
use Rattle.std.proofs.Common.{◌≡◌, ℕ, ◌+◌, ◌≤◌, Bool, true, false, leb, ltb, ◌&&◌, ◌||◌, if◌then◌else◌, is_some, List, length, Option, None, Some, refl, ap, ◌∙◌, arith, inl, inr}
use Rattle.std.proofs.lemmas.List.{get_or_past}
use Rattle.std.proofs.lemmas.Bool.{cases_lt, le-leb, lt-ltb}
use Rattle.image_files.specs.Fill.{IsWithoutPort, fill_at, is_as_first}
use Rattle.model.specs.Image.{cell_at, has_byte}
use Rattle.model.specs.State.{Map, has_port_byte, is_port}

abbrev Cells : Type 0
Cells = List (Option ℕ)

at_port : (bus_map : Map) (address : ℕ) → bus_map.port ≤ address → address ≤ bus_map.port + 3 → is_port bus_map address ≡ true
unfolding is_port
at_port bus_map address low high = rw (le-leb bus_map.port address low, lt-ltb address (bus_map.port + 4) (omega (arith, high))) refl

none_there : (bus_map : Map) (whole part : Cells) (address : ℕ) → length part ≡ 65536 → IsWithoutPort bus_map whole part
    → is_port bus_map address ≡ true → has_byte part address ≡ false
unfolding has_byte
none_there bus_map whole part address size without port = elim (cases_lt address 65536) [
  | inl below ↦ ap is_some (without address below ∙ ap (λ (b : Bool). if b then None else cell_at whole address) port)
  | inr above ↦ ap is_some (get_or_past part address None (omega (arith, size, above)))
]

pub none_at_port : (bus_map : Map) (whole part : Cells) → length part ≡ 65536 → IsWithoutPort bus_map whole part → has_port_byte bus_map part ≡ false
unfolding has_port_byte
none_at_port bus_map whole part size without =
    let none = λ (address : ℕ) (low : bus_map.port ≤ address) (high : address ≤ bus_map.port + 3).
    none_there bus_map whole part address size without (at_port bus_map address low high) in
    rw (
      none bus_map.port (omega arith) (omega arith),
      none (bus_map.port + 1) (omega arith) (omega arith),
      none (bus_map.port + 2) (omega arith) (omega arith),
      none (bus_map.port + 3) (omega arith) (omega arith),
    ) refl

-- An image without a byte at the port has no fill there.
pub never_filled : (omits : Bool) (bus_map : Map) (image : Cells) → has_port_byte bus_map image ≡ false → fill_at omits bus_map image ≡ None
never_filled true bus_map image none = ap (λ (b : Bool). if b
    && (is_as_first bus_map image 1 && (is_as_first bus_map image 2 && is_as_first bus_map image 3)) then Some bus_map.port else None) none
never_filled false bus_map image none = refl
