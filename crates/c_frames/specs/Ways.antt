-- The ways through the code of cc65, with what each changes. Source: MCS6500 manual, chapters 4 and
-- 8; cc65 2.19 for what its code does with calls; mos65 for where nothing is known.
use Rattle.std.specs.Prelude.{ℕ, ◌+◌, ◌*◌, ◌%◌, ◌==◌, ◌&&◌, ◌||◌, Bool, true, false, if◌then◌else◌, List, [], ◌∷◌, get_or, Option, Some, None}
use Rattle.model.specs.declared.instruction.Profile.TheVariants.{N}
use Rattle.model.specs.declared.instruction.Mnemonic.{Mnemonic}
use Rattle.model.specs.declared.instruction.Mnemonic.TheVariants.{Rts, Rti, Brk, Txs, Jmp, Jsr, Pha, Php, Pla, Plp, Ldy, Sta, Stx, Sty, Inc, Dec, Asl, Lsr, Rol, Ror}
use Rattle.model.specs.declared.instruction.Mode.{Mode}
use Rattle.model.specs.declared.instruction.Mode.TheVariants.{Imm, Zp, Abs, Rel}
use Rattle.model.specs.declared.instruction.Row.{Row}
use Rattle.model.specs.OpcodeTable.{row_at}
use Rattle.model.specs.InstructionText.{target_of}
use Rattle.c_frames.specs.Programs.{Program}
use Rattle.c_frames.specs.Rises.{no_rise}
use Rattle.c_frames.specs.Routines.{added, effect_at, fixed_rise, rise_by_y}
use Rattle.c_frames.specs.declared.programs.Function.{Function}
use Rattle.c_frames.specs.declared.rises.Rise.{Rise}
use Rattle.c_frames.specs.declared.routines.Effect.{Effect}
use Rattle.c_frames.specs.declared.routines.Effect.TheVariants.{Adds, Takes, Pushes, Enter, AddsY, SubtractsY}
use Rattle.c_frames.specs.declared.ways.Change.{Change}
use Rattle.c_frames.specs.declared.ways.Change.TheVariants.{Rises, Calls}
use Rattle.c_frames.specs.declared.ways.Kind.{Kind}
use Rattle.c_frames.specs.declared.ways.Kind.TheVariants as kind
use Rattle.c_frames.specs.declared.ways.Way.{Way}
use Rattle.c_frames.specs.declared.ways.Ways.{Ways}

-- The byte at an address, 0 where none is.
abbrev pub byte_at : List ℕ → ℕ → ℕ
byte_at memory address = get_or memory address 0

-- The word at an address, its low byte first.
abbrev pub word_at : List ℕ → ℕ → ℕ
word_at memory address
    = byte_at memory address + 256 * byte_at memory ((address + 1) % 65536)

-- ---- what an instruction does to control and to the stack pointers

-- After RTI and BRK nothing is known, nor once TXS has set the stack pointer.
abbrev pub kind_of : Mnemonic → Kind
kind_of Rts = kind.Returns
kind_of Rti = kind.Stops
kind_of Brk = kind.Stops
kind_of Txs = kind.Stops
kind_of Jmp = kind.Jumps
kind_of Jsr = kind.Calls
kind_of Pha = kind.Pushes
kind_of Php = kind.Pushes
kind_of Pla = kind.Pulls
kind_of Plp = kind.Pulls
kind_of Ldy = kind.LoadsY
kind_of Sta = kind.Stores
kind_of Stx = kind.Stores
kind_of Sty = kind.Stores
kind_of Inc = kind.Stores
kind_of Dec = kind.Stores
kind_of Asl = kind.Stores
kind_of Lsr = kind.Stores
kind_of Rol = kind.Stores
kind_of Ror = kind.Stores
kind_of m = kind.Goes

-- ---- ways

abbrev pub no_ways : Ways
no_ways = record { first = None; second = None }

abbrev pub one_way : Option ℕ → Change → Ways
one_way to change = record { first = Some (record { to = to; change = change }); second = None }

-- A way by which the stack pointers rise, if that is known.
abbrev pub way_by : Option ℕ → Option Rise → Option Way
way_by to None = None
way_by to (Some rise) = Some (record { to = to; change = Rises rise })

-- Control goes on, and nothing changes.
abbrev pub goes_to : ℕ → Ways
goes_to address = one_way (Some address) (Rises no_rise)

-- Whether a function with `...` begins at an address: with a call of `enter`.
abbrev pub is_enter : Option Effect → Bool
is_enter None = false
is_enter (Some (Adds number)) = false
is_enter (Some (Takes number)) = false
is_enter (Some (Pushes number)) = false
is_enter (Some Enter) = true
is_enter (Some (AddsY more)) = false
is_enter (Some SubtractsY) = false

abbrev pub begins_with_enter : Program → ℕ → Bool
begins_with_enter p address = byte_at p.memory address == 0x20
    && is_enter (effect_at p.routines (word_at p.memory ((address + 1) % 65536)))

abbrev pub begins_function : List Function → ℕ → Bool
begins_function [] address = false
begins_function (function ∷ functions) address = if function.start == address then true
    else begins_function functions address

-- A call of a routine of the runtime that goes by Y changes what is known only together with the
-- `LDY #` before it, and so does one of a function with `...`. Any other routine changes what is
-- added to its end.
abbrev pub called_by : Program → ℕ → Option ℕ → Option Effect → Ways
called_by p address to None
    = if begins_with_enter p address then no_ways else one_way to (Calls address)
called_by p address to (Some effect)
    = record { first = way_by to (fixed_rise effect); second = None }

abbrev pub called : Program → ℕ → Option ℕ → Ways
called p address to = called_by p address to (effect_at p.routines address)

-- A jump to a routine of the runtime or to the first byte of a function is a last call.
abbrev pub jumped_by : Program → ℕ → Option Effect → Ways
jumped_by p address None = if begins_function p.functions address
    then called_by p address None None else goes_to address
jumped_by p address (Some effect) = called_by p address None (Some effect)

abbrev pub jumped : Program → Mode → ℕ → Ways
jumped p Abs address = jumped_by p address (effect_at p.routines address)
jumped p mode address = no_ways

-- What a call behind an `LDY #` adds that goes by Y: a function with `...` takes off as many bytes
-- as Y says.
abbrev pub rise_with_y : Program → ℕ → ℕ → Option Effect → Option Rise
rise_with_y p address y None = if begins_with_enter p address then Some (added y) else None
rise_with_y p address y (Some effect) = rise_by_y effect y

abbrev pub y_called : Program → ℕ → ℕ → Option ℕ → Option Way
y_called p address y to = way_by to (rise_with_y p address y (effect_at p.routines address))

-- The way from an `LDY #` through the call or the jump behind it.
abbrev pub y_way : Program → ℕ → ℕ → Option Way
y_way p address y =
    let behind = byte_at p.memory ((address + 2) % 65536) in
    let to = word_at p.memory ((address + 3) % 65536) in
    if behind == 0x20 then y_called p to y (Some ((address + 5) % 65536))
    else if behind == 0x4C then y_called p to y None else None

abbrev pub loaded : Program → Mode → ℕ → ℕ → ℕ → Ways
loaded p Imm address len y = record {
  first = Some (record { to = Some ((address + len) % 65536); change = Rises no_rise });
  second = y_way p address y;
}
loaded p mode address len y = goes_to ((address + len) % 65536)

-- What stores in the software stack pointer itself changes it in a way that is not known.
abbrev pub is_pointer : Program → Mode → ℕ → Bool
is_pointer p Zp second = second == p.pointer || second == (p.pointer + 1) % 256
is_pointer p mode second = false

abbrev pub is_branch : Mode → Bool
is_branch Rel = true
is_branch mode = false

abbrev pub gone : Mode → ℕ → ℕ → ℕ → Ways
gone mode address len second = record {
  first = Some (record { to = Some ((address + len) % 65536); change = Rises no_rise });
  second = if is_branch mode
      then Some (record { to = Some (target_of address second); change = Rises no_rise }) else None;
}

abbrev pub ways_by_kind : Program → ℕ → Row → Kind → Ways
ways_by_kind p address row kind.Returns = one_way None (Rises no_rise)
ways_by_kind p address row kind.Stops = no_ways
ways_by_kind p address row kind.Jumps
    = jumped p row.mode (word_at p.memory ((address + 1) % 65536))
ways_by_kind p address row kind.Calls = called p
    (word_at p.memory ((address + 1) % 65536)) (Some ((address + row.len) % 65536))
ways_by_kind p address row kind.Pushes
    = one_way (Some ((address + row.len) % 65536)) (Rises (record { sp = 0; s = 255 }))
ways_by_kind p address row kind.Pulls
    = one_way (Some ((address + row.len) % 65536)) (Rises (record { sp = 0; s = 1 }))
ways_by_kind p address row kind.LoadsY
    = loaded p row.mode address row.len (byte_at p.memory ((address + 1) % 65536))
ways_by_kind p address row kind.Stores
    = if is_pointer p row.mode (byte_at p.memory ((address + 1) % 65536)) then no_ways
    else goes_to ((address + row.len) % 65536)
ways_by_kind p address row kind.Goes
    = gone row.mode address row.len (byte_at p.memory ((address + 1) % 65536))

abbrev pub ways_by : Program → ℕ → Option Row → Ways
ways_by p address None = no_ways
ways_by p address (Some row) = ways_by_kind p address row (kind_of row.mnemonic)

-- The ways from the instruction at an address.
unfoldable pub ways_at : Program → ℕ → Ways
ways_at p address = ways_by p address (row_at N (byte_at p.memory address))
