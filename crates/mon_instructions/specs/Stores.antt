-- What a step has stored. Source: mos65.
use Rattle.std.specs.Prelude.{ℕ, ◌+◌, ◌-◌, ◌==◌, ◌||◌, Bool, not, if◌then◌else◌, List, [], ◌++◌, Option, None, Some, codes, length, slice_get, slice_index}
use Rattle.std.specs.List.{flat_map}
use Rattle.model.specs.Arithmetic.{bit}
use Rattle.model.specs.State.{Bus, Map, is_port, is_rom}
use Rattle.model.specs.Text.{hex_address, hex_byte}

-- Whether a store at an address of the port does nothing: at base+1 and base+2.
abbrev pub is_lost : Map → ℕ → Bool
is_lost map address = (address == map.port + 1) || (address == map.port + 2)

-- What a store has left at the port: the control byte at base+3, the last byte of output at base.
unfoldable pub port_left : Bus → ℕ → Option ℕ
port_left bus address = if is_lost bus.map address then None
    else if address == bus.map.port + 3 then Some (bit bus.control)
    else slice_get bus.out (length bus.out - 1)

-- What a store has left at an address: that at the port, otherwise memory's byte. It has left
-- nothing in the ROM.
unfoldable pub byte_left : Bus → ℕ → Option ℕ
byte_left bus address = if is_port bus.map address then port_left bus address
    else if not (is_port bus.map address || is_rom bus.map address)
    then Some (slice_index bus.memory address) else None

-- What was left, behind two blanks: `  0022=11`.
abbrev pub left_text : ℕ → Option ℕ → List ℕ
left_text address None = []
left_text address (Some byte)
    = codes "  " ++ hex_address address ++ codes "=" ++ hex_byte byte

abbrev pub store_text : Bus → ℕ → List ℕ
store_text bus address = left_text address (byte_left bus address)

abbrev pub stores_text : Bus → List ℕ → List ℕ
stores_text bus addresses = flat_map (store_text bus) addresses
