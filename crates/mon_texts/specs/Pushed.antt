-- What has pushed the bytes on the stack. Source: mos65; what JSR, BRK and interrupts push, MCS6500
-- manual, chapters 8 and 9.
use Rattle.std.specs.Prelude.{ℕ, zero, suc, ◌+◌, ◌*◌, ◌%◌, ◌==◌, ◌&&◌, nat_le, nat_lt, Bool, false, if◌then◌else◌, List, [], ◌++◌, Option, None, Some, bit_and, slice_index}
use Rattle.source_map.specs.Lines.{row_at}
use Rattle.source_map.specs.declared.rows.Row.{Row}
use Rattle.mon_texts.specs.declared.pushed.Pushed.{Pushed}
use Rattle.mon_texts.specs.declared.pushed.Pushed.TheVariants.{Call, Break, Interrupt, Byte}

-- The address that the byte at an address and the one behind it are, the low byte first.
abbrev pub word_at : List ℕ → ℕ → ℕ
word_at memory address = slice_index memory address + 256 * slice_index memory (address + 1)

-- The address of the JSR that pushed these two: that of its last byte is two above its own. $0000
-- comes after $FFFF.
abbrev pub jsr_at : List ℕ → ℕ → ℕ
jsr_at memory address = (word_at memory address + 65534) % 65536

-- Whether a JSR is at an address: its opcode is $20.
abbrev pub is_jsr : List ℕ → ℕ → Bool
is_jsr memory address = slice_index memory address == 32

-- Whether two bytes are a return address: a JSR is where they say, and both are on the stack.
abbrev pub is_return : List ℕ → ℕ → Bool
is_return memory address = nat_lt address 511 && is_jsr memory (jsr_at memory address)

abbrev pub is_code : Option Row → Bool
is_code None = false
is_code (Some row) = row.is_instruction

-- Whether a line of the source that is an instruction begins at an address.
abbrev pub begins_instruction : List Row → ℕ → Bool
begins_instruction lines address = is_code (row_at lines address)

-- Whether a BRK of the source is at an address: its opcode is $00.
abbrev pub is_break : List ℕ → List Row → ℕ → Bool
is_break memory lines address
    = (slice_index memory address == 0) && begins_instruction lines address

-- What has pushed P and an address. An interrupt pushes P with bit 5 set and bit 4 clear, and the
-- address of the instruction that was to come next. BRK pushes P with both set, and the address two
-- above its own.
abbrev pub pushed_by_entry : List ℕ → List Row → ℕ → ℕ → Pushed
pushed_by_entry memory lines status address =
    if (bit_and status 0x30 == 0x20) && begins_instruction lines address then Interrupt address
    else if (bit_and status 0x30 == 0x30) && is_break memory lines ((address + 65534) % 65536)
    then Break ((address + 65534) % 65536) else Byte

-- What has pushed the bytes from an address of the stack on, which ends at $01FF.
unfoldable pub pushed_at : List ℕ → List Row → ℕ → Pushed
pushed_at memory lines address =
    if is_return memory address then Call (jsr_at memory address)
    else if nat_lt address 510
    then pushed_by_entry memory lines (slice_index memory address) (word_at memory (address + 1))
    else Byte

abbrev pub pushed_len : Pushed → ℕ
pushed_len (Call at) = 2
pushed_len (Break at) = 3
pushed_len (Interrupt at) = 3
pushed_len Byte = 1

-- ---- one after another

-- How many bytes were pushed that stand from an address on.
abbrev pub entry_len : List ℕ → List Row → ℕ → ℕ
entry_len memory lines address = pushed_len (pushed_at memory lines address)

-- A text for each of up to n that were pushed, from an address on, where the stack ends at $01FF.
unfoldable pub entries : ℕ → (ℕ → List ℕ) → (ℕ → ℕ) → ℕ → List ℕ
entries zero text len address = []
entries (suc n) text len address = if nat_le 512 address then []
    else text address ++ entries n text len (address + len address)
