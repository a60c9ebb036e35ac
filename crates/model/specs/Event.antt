-- Events, and the state in which a machine starts.
use Rattle.std.specs.Prelude.{ℕ, ◌+◌, Bool, true, false, ◌||◌, ◌==◌, nat_lt, nat_le, if◌then◌else◌, List, [], ◌∷◌, ◌++◌, length, take, Option, Result, Ok, Err}
use Rattle.model.specs.State.{Map, Bus, State, console_size, is_port, bus_with_byte, loaded_bus}
use Rattle.model.specs.Operand.{address_at}
use Rattle.model.specs.Effect.{flags_of_byte}
use Rattle.model.specs.Step.{most_cycles, step}
use Rattle.model.specs.declared.registers.Regs.{Regs}
use Rattle.model.specs.declared.registers.Flags.{Flags}
use Rattle.model.specs.declared.event.Setting.{Setting}
use Rattle.model.specs.declared.event.Setting.TheVariants.{A, X, Y, S, P, Pc}
use Rattle.model.specs.declared.event.Event.{Event}
use Rattle.model.specs.declared.event.Event.TheVariants.{Step, Reset, Irq, Nmi, Set, Patch, Input}
use Rattle.model.specs.declared.event.EventFault.{EventFault}
use Rattle.model.specs.declared.event.EventFault.TheVariants.{CyclesFull, PastEnd, PortAddress, BadLength, InputFull}

-- Sets a register. P is read as PLP reads it. Source: mos65.
unfoldable pub set_to : Setting → Regs → Regs
set_to (A value) regs = record regs { a = value }
set_to (X value) regs = record regs { x = value }
set_to (Y value) regs = record regs { y = value }
set_to (S value) regs = record regs { s = value }
set_to (P value) regs = record regs { flags = flags_of_byte value }
set_to (Pc value) regs = record regs { pc = value }

-- Whether one of some bytes from an address on would be at the port.
abbrev pub meets_port : Map → ℕ → List ℕ → Bool
meets_port map address [] = false
meets_port map address (byte ∷ bytes) = is_port map address || meets_port map (address + 1) bytes

-- Bytes put into memory from an address on, one after another.
abbrev pub bus_with_patch : ℕ → List ℕ → Bus → Bus
bus_with_patch address [] bus = bus
bus_with_patch address (byte ∷ bytes) bus = bus_with_patch (address + 1) bytes (bus_with_byte bus address byte)

-- A patch is the first of these that applies: rejected with BadLength unless it has 1 to 3 bytes;
-- rejected with PastEnd if it would go past address 65535; rejected with PortAddress if it would
-- change a byte at the port; its bytes are put into memory, into ROM too. Source: mos65.
unfoldable pub patch_of : ℕ → List ℕ → State → Result State EventFault
patch_of address bytes state =
    if (length bytes == 0) || nat_lt 3 (length bytes) then Err BadLength
    else if nat_lt 65536 (address + length bytes) then Err PastEnd
    else if meets_port state.bus.map address bytes then Err PortAddress
    else Ok (record state { bus = bus_with_patch address bytes state.bus })

-- All flags clear, all registers 0.
abbrev pub no_flags : Flags
no_flags = record { n = false; v = false; d = false; i = false; z = false; c = false }

abbrev pub no_regs : Regs
no_regs = record { a = 0; x = 0; y = 0; s = 0; pc = 0; flags = no_flags }

-- Reset: S is $FD, I is set, D is clear, PC comes from $FFFC, no NMI is pending, the port's control
-- byte is 0, 7 cycles pass, and all else stays. Source: MCS6500 manual, chapter 9, for the vector;
-- mos65 for the rest.
unfoldable pub reset_state : State → State
reset_state state = record state {
  bus = record state.bus { control = false };
  regs = record state.regs {
    s = 0xFD;
    pc = address_at state.bus 0xFFFC;
    flags = record state.regs.flags { i = true; d = false };
  };
  nmi = false;
  cycles = state.cycles + 7;
}

-- A reset is rejected with CyclesFull, as a step is, if the count is above 2^64 - 17. Source:
-- mos65.
unfoldable pub reset_of : State → Result State EventFault
reset_of state = if nat_lt most_cycles state.cycles then Err CyclesFull else Ok (reset_state state)

-- A byte of input is handed in; rejected if 65,536 bytes were, those taken included. Source: mos65.
unfoldable pub input_of : ℕ → State → Result State EventFault
input_of byte state =
    if nat_le console_size (length state.bus.given) then Err InputFull
    else Ok (record state { bus = record state.bus { given = state.bus.given ++ byte ∷ [] } })

-- The next state, or the fault with which the event is rejected; a rejected event changes nothing.
-- Of a patch's three bytes the first `count` are taken. Lines and registers are never rejected.
-- Source: mos65.
unfoldable pub event_of : State → Event → Result State EventFault
event_of state Step = step state
event_of state Reset = reset_of state
event_of state (Irq level) = Ok (record state { irq = level })
event_of state Nmi = Ok (record state { nmi = true })
event_of state (Set setting) = Ok (record state { regs = set_to setting state.regs })
event_of state (Patch address bytes count) = if nat_lt 3 count then Err BadLength
    else patch_of address (take count bytes) state
event_of state (Input byte) = input_of byte state

-- The start: an image in memory, everything else 0, and then one reset. Source: mos65.
unfoldable pub start : Map → List (Option ℕ) → State
start map image = reset_state
    (record { bus = loaded_bus map image; regs = no_regs; irq = false; nmi = false; cycles = 0 })
