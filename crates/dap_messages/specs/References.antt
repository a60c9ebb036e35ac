-- How a client names an address. Source: Debug Adapter Protocol 1.65, "memoryReference",
-- "instructionReference", "dataId": what the adapter gave, here `0x` and four hex digits, and for
-- more bytes than one, behind `:`, the same of the last; mos65.
use Rattle.std.specs.Prelude.{ℕ, ◌+◌, ◌-◌, ℤ, pos, negsuc, ◌+ℤ◌, ◌==◌, ◌||◌, nat_le, nat_lt, Bool, if◌then◌else◌, List, codes, drop, take, length, Option, Some, None, option_and_then, unwrap_or}
use Rattle.std.specs.List.{starts_with}
use Rattle.dap_messages.specs.declared.request.ByteRange.{ByteRange}
use Rattle.json_messages.specs.Fields.{text_at}
use Rattle.model.specs.Commands as command
use Rattle.serde_json.specs.Data.{Data}
use Rattle.serde_json.specs.Find.{as_i64, as_number, pointer}

-- ---- references

unfoldable pub begins_reference : List ℕ → Bool
begins_reference bytes = starts_with (λ x y. x == y) bytes (codes "0x")

-- The address of a reference.
abbrev pub address_of : List ℕ → Option ℕ
address_of reference = if begins_reference reference then command.address_of (drop 2 reference)
    else None

-- ---- offsets

-- The address that a number is.
abbrev pub in_memory : ℤ → Option ℕ
in_memory (pos n) = if nat_le n 65535 then Some n else None
in_memory (negsuc n) = None

-- An address moved by an offset.
abbrev pub moved_by : ℕ → ℤ → Option ℕ
moved_by address offset = in_memory (pos address +ℤ offset)

abbrev pub i64_of : Data → Option ℤ
i64_of d = option_and_then as_i64 (as_number d)

-- The offset at a path: none is 0.
abbrev pub offset_at : List ℕ → Data → ℤ
offset_at path message = unwrap_or (option_and_then i64_of (pointer path message)) (pos 0)

-- The address that a message names, by the paths of its reference and of its offset.
abbrev pub place_at : List ℕ → List ℕ → Data → Option ℕ
place_at reference offset message = option_and_then
    (λ address. moved_by address (offset_at offset message))
    (option_and_then address_of (text_at reference message))

-- ---- bytes

-- So many bytes from an address on: one at least, all within the memory.
abbrev pub range_of : ℕ → ℕ → Option ByteRange
range_of address count = if count == 0 || nat_lt (65536 - address) count then None
    else Some (record { first = address; last = address + (count - 1) })

-- Those from an address to another one.
abbrev pub range_by : Option ℕ → Option ℕ → Option ByteRange
range_by None last = None
range_by (Some first) None = None
range_by (Some first) (Some last)
    = if nat_le first last then Some (record { first = first; last = last }) else None

unfoldable pub begins_last : List ℕ → Bool
begins_last text = starts_with (λ x y. x == y) text (codes ":")

abbrev pub last_in : List ℕ → Option ℕ
last_in text = if begins_last text then address_of (drop 1 text) else None

-- The bytes that an ID of data names: one, if it has no second reference.
abbrev pub range_in : List ℕ → Option ByteRange
range_in id = if nat_lt (length id) 7 then range_by (address_of id) (address_of id)
    else range_by (address_of (take 6 id)) (last_in (drop 6 id))
