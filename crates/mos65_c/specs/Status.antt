-- What C hands over and is answered: configurations, statuses, registers and how a run ended.
-- Source: mos65.
use Rattle.std.specs.Prelude.{ℕ, ◌+◌, Bool, false, not, ◌||◌, ◌==◌, nat_lt, if◌then◌else◌, List, [], ◌∷◌, ◌++◌, take, Option, Some, None}
use Rattle.model.specs.State.{Map, State, is_map, no_port}
use Rattle.model.specs.Effect.{status}
use Rattle.model.specs.FaultNames.{event_fault_number}
use Rattle.model.specs.declared.event.EventFault.{EventFault}
use Rattle.model.specs.declared.event.EventFault.TheVariants.{Undocumented}
use Rattle.model.specs.declared.event.Setting.{Setting}
use Rattle.model.specs.declared.event.Setting.TheVariants.{A, X, Y, S, P, Pc}
use Rattle.model.specs.declared.instruction.Profile.{Profile}
use Rattle.model.specs.declared.instruction.Profile.TheVariants.{N, C}
use Rattle.model.specs.declared.run_end.RunEnd.{RunEnd}
use Rattle.model.specs.declared.run_end.Why.{Why}
use Rattle.model.specs.declared.run_end.Why.TheVariants.{Limit, Break, Watch, Refused}
use Rattle.mos65_c.specs.declared.config.Config.{Config}
use Rattle.mos65_c.specs.declared.ending.Ending.{Ending}
use Rattle.mos65_c.specs.declared.ending.Given.{Given}
use Rattle.mos65_c.specs.declared.ending.Registers.{Registers}
use Rattle.rig.specs.declared.given.Given as rig_given

-- ---- configurations

-- 78 is N, 67 is C.
abbrev pub is_profile : ℕ → Bool
is_profile letter = (letter == 78) || (letter == 67)

abbrev pub profile_of : ℕ → Profile
profile_of letter = if letter == 67 then C else N

abbrev pub rom_of : Config → Option (ℕ × ℕ)
rom_of c = if c.has_rom then Some (c.rom_first, c.rom_last) else None

-- The base of the port; $FFFF is no base, and stands for no port.
abbrev pub port_of : Config → ℕ
port_of c = if c.port == 0xFFFF then no_port else c.port

-- The map of a configuration.
abbrev pub config_map : Config → Map
config_map c = record { profile = profile_of c.profile; rom = rom_of c; port = port_of c }

-- 2 where the history is above 65,536 or the profile has another letter than N or C; then 501, 500
-- and the number of BadMap, where port and ROM make no map; else 0.
unfoldable pub config_status : Config → ℕ
config_status c =
    if nat_lt 65536 c.history || not (is_profile c.profile) then 2
    else if is_map (rom_of c) (port_of c) then 0
    else 501

-- ---- events

-- A register by its number: A, X, Y, S and P take a byte, PC a word.
abbrev pub byte_setting : (ℕ → Setting) → ℕ → Option Setting
byte_setting to value = if nat_lt value 256 then Some (to value) else None

unfoldable pub setting_of : ℕ → ℕ → Option Setting
setting_of register value =
    if register == 0 then byte_setting A value
    else if register == 1 then byte_setting X value
    else if register == 2 then byte_setting Y value
    else if register == 3 then byte_setting S value
    else if register == 4 then byte_setting P value
    else if register == 5 then Some (Pc value)
    else None

-- The bytes of a patch, with 0 after them up to three.
abbrev pub three_bytes : List ℕ → List ℕ
three_bytes bytes = take 3 (bytes ++ 0 ∷ 0 ∷ 0 ∷ [])

-- ---- what a subroutine is called with

abbrev pub value_of : Bool → ℕ → Option ℕ
value_of has value = if has then Some value else None

abbrev pub given_of : Given → rig_given.Given
given_of given = record {
  a = value_of given.has_a given.a;
  x = value_of given.has_x given.x;
  y = value_of given.has_y given.y;
}

-- ---- how a run ended

-- The opcode that stops a run, and where it stands.
abbrev pub opcode_of : EventFault → ℕ
opcode_of (Undocumented opcode pc) = opcode
opcode_of fault = 0

abbrev pub place_of : EventFault → ℕ
place_of (Undocumented opcode pc) = pc
place_of fault = 0

abbrev pub ending_by : ℕ → Why → Ending
ending_by did Limit = record { did = did; why = 0; status = 0; address = 0; opcode = 0 }
ending_by did (Break address)
    = record { did = did; why = 1; status = 0; address = address; opcode = 0 }
ending_by did (Watch address)
    = record { did = did; why = 2; status = 0; address = address; opcode = 0 }
ending_by did (Refused fault) = record {
  did = did;
  why = 3;
  status = 100 + event_fault_number fault;
  address = place_of fault;
  opcode = opcode_of fault;
}

abbrev pub ending_of : RunEnd → Ending
ending_of end = ending_by end.did end.why

-- ---- registers

-- P with bit 5 set and B clear, as `regs` prints it.
abbrev pub registers_of : State → Registers
registers_of state = record {
  cycles = state.cycles;
  pc = state.regs.pc;
  a = state.regs.a;
  x = state.regs.x;
  y = state.regs.y;
  s = state.regs.s;
  p = status false state.regs.flags;
}
