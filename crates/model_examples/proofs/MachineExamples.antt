-- Worked examples, computed from the definitions. A list that ends early stands for memory: what is
-- past its end reads as 0.
use Rattle.std.proofs.Common.{◌≡◌, ℕ, Bool, true, false, List, [], ◌∷◌, ◌++◌, length, replicate, refl, codes}
use Rattle.std.specs.Prelude.{◌==◌, ◌||◌, ◌&&◌, not, decimal, Result, Ok, Err, None, Some}
use Rattle.model.specs.State.{Map, Bus, State, no_port, is_map, is_port, is_rom, overflows, byte_read, after_read, after_write}
use Rattle.model.specs.Operand.{effective_address, address_at, address_in_page, jump_target}
use Rattle.model.specs.Arithmetic.{adc, sbc}
use Rattle.model.specs.Effect.{operation_of, regs_after_read, load, operand, after_operand, regs_after_move, store, store_value, modify_a, modify_sum, branch, branches, after_push, stack_top, after_pull, pull_x, interrupt_sequence, break_entry, after_operation, status, flags_of_byte}
use Rattle.model.specs.OpcodeTable.{Entry, row_at, find_row, table, documented_opcodes, added_opcodes}
use Rattle.model.specs.Step.{step, attempt, execution, past_instruction, interrupt_entry, stores}
use Rattle.model.specs.Event.{no_regs, no_flags, reset_of, reset_state}
use Rattle.model.specs.TextLines.{lines_from, lines_of}
use Rattle.model.specs.Commands.{command_of, command_of_words, set_command}
use Rattle.model.specs.Text.{register_line, memory_row, memory_rows, spaced_bytes}
use Rattle.model.specs.Transcript.{refused_text, fault_line}
use Rattle.model.specs.declared.registers.Regs.{Regs}
use Rattle.model.specs.declared.instruction.Profile.{Profile}
use Rattle.model.specs.declared.instruction.Profile.TheVariants.{N, C}
use Rattle.model.specs.declared.instruction.Row.{Row}
use Rattle.model.specs.contracts.instruction.Mnemonic as mnemonic
use Rattle.model.specs.contracts.instruction.Mode as mode
use denote.Enum.Bare.{sameb}
use Rattle.model.specs.declared.command.Command.TheVariants as command
use Rattle.model.specs.declared.event.EventFault.{EventFault}
use Rattle.model.specs.declared.event.EventFault.TheVariants as event_fault
use Rattle.model.specs.declared.event.Setting.TheVariants as setting

-- ---- the opcode table

table_lines : length (table N) ≡ 151
unfolding table documented_opcodes
table_lines = refl

more_lines : length (table C) ≡ 170
unfolding table documented_opcodes added_opcodes
more_lines = refl

abbrev is_in : ℕ → List Entry → Bool
is_in opcode [] = false
is_in opcode (e ∷ es) = (opcode == e.0) || is_in opcode es

-- whether no opcode stands twice
abbrev opcodes_once : List Entry → Bool
opcodes_once [] = true
opcodes_once (e ∷ es) = not (is_in e.0 es) && opcodes_once es

table_once : opcodes_once (table N) ≡ true
unfolding table documented_opcodes
table_once = refl

more_once : opcodes_once (table C) ≡ true
unfolding table documented_opcodes added_opcodes
more_once = refl

abbrev same_pair : Row → Row → Bool
same_pair r s = sameb mnemonic.the_type r.mnemonic s.mnemonic && sameb mode.the_type r.mode s.mode

abbrev has_pair : Row → List Entry → Bool
has_pair r [] = false
has_pair r (e ∷ es) = same_pair r e.1 || has_pair r es

-- whether no pair of mnemonic and mode stands twice
abbrev pairs_once : List Entry → Bool
pairs_once [] = true
pairs_once (e ∷ es) = not (has_pair e.1 es) && pairs_once es

table_pairs_once : pairs_once (table N) ≡ true
unfolding table documented_opcodes
table_pairs_once = refl

more_pairs_once : pairs_once (table C) ≡ true
unfolding table documented_opcodes added_opcodes
more_pairs_once = refl

-- ---- arithmetic

-- decimal 99 + 1 is 00 and a carry; N and Z are not those of 00
decimal_carry : adc 0x99 0x01 false true ≡ record { value = 0; n = true; v = false; z = false; c = true }
unfolding adc
decimal_carry = refl

decimal_overflow : adc 0x79 0x00 true true ≡ record { value = 0x80; n = true; v = true; z = false; c = false }
unfolding adc
decimal_overflow = refl

-- decimal 0 - 1 is 99 and a borrow
decimal_borrow : sbc 0x00 0x01 true true ≡ record { value = 0x99; n = true; v = false; z = false; c = false }
unfolding sbc
decimal_borrow = refl

-- with the carry in, 58 + 46 + 1 is 105
decimal_sum : adc 0x58 0x46 true true ≡ record { value = 0x05; n = true; v = true; z = false; c = true }
unfolding adc
decimal_sum = refl

-- 12 - 21 is -9, which is 91 and a borrow
decimal_difference : sbc 0x12 0x21 true true ≡ record { value = 0x91; n = true; v = false; z = false; c = false }
unfolding sbc
decimal_difference = refl

-- a digit above 9
decimal_invalid : adc 0x0F 0x01 false true ≡ record { value = 0x16; n = false; v = false; z = false; c = false }
unfolding adc
decimal_invalid = refl

binary_overflow : adc 0x7F 0x01 false false ≡ record { value = 0x80; n = true; v = true; z = false; c = false }
unfolding adc
binary_overflow = refl

binary_borrow : sbc 0x80 0x01 true false ≡ record { value = 0x7F; n = false; v = true; z = false; c = true }
unfolding sbc
binary_borrow = refl

-- the flags of a byte, and the byte of flags
status_byte : status true (flags_of_byte 0xCF) ≡ 0xFF
unfolding status flags_of_byte
status_byte = refl

status_ignored : flags_of_byte 0x30 ≡ no_flags
unfolding flags_of_byte
status_ignored = refl

-- ---- steps

-- the map without a ROM, in a profile
abbrev plain_map : Profile → Map
plain_map profile = record { profile = profile; rom = None; port = 0xF000 }

abbrev in_profile : Profile → List ℕ → Regs → ℕ → State
in_profile profile memory regs cycles = record {
  bus = record { map = plain_map profile; memory = memory; given = []; taken = 0; out = []; control = false };
  regs = regs;
  irq = false;
  nmi = false;
  cycles = cycles;
}

abbrev with_memory : List ℕ → Regs → ℕ → State
with_memory = in_profile N

abbrev after_load : ℕ → Regs
after_load pc = record no_regs { a = 0x80; pc = pc; flags = record no_flags { n = true } }

-- LDA #$80 sets N and takes 2 cycles
load_immediate : step (with_memory (0xA9 ∷ 0x80 ∷ 0x8D ∷ 0x06 ∷ 0x00 ∷ 0xEA ∷ 0x00 ∷ []) no_regs 7)
    ≡ Ok (with_memory (0xA9 ∷ 0x80 ∷ 0x8D ∷ 0x06 ∷ 0x00 ∷ 0xEA ∷ 0x00 ∷ []) (after_load 2) 9)
unfolding step attempt execution past_instruction stores after_operation load regs_after_read operand after_operand effective_address operation_of
    row_at find_row table documented_opcodes
load_immediate = refl

-- STA $0006 stores A and takes 4
store_absolute : step (with_memory (0xA9 ∷ 0x80 ∷ 0x8D ∷ 0x06 ∷ 0x00 ∷ 0xEA ∷ 0x00 ∷ []) (after_load 2) 9)
    ≡ Ok (with_memory (0xA9 ∷ 0x80 ∷ 0x8D ∷ 0x06 ∷ 0x00 ∷ 0xEA ∷ 0x80 ∷ []) (after_load 5) 13)
unfolding step attempt execution past_instruction stores after_operation store store_value after_write overflows is_port is_rom effective_address
    address_at operation_of row_at find_row table documented_opcodes
store_absolute = refl

-- NOP takes 2 cycles and changes nothing else
no_operation : step (with_memory (0xEA ∷ []) no_regs 7) ≡ Ok (with_memory (0xEA ∷ []) (record no_regs { pc = 1 }) 9)
unfolding step attempt execution past_instruction stores after_operation regs_after_move effective_address operation_of row_at find_row table documented_opcodes
no_operation = refl

abbrev with_x : ℕ → Regs
with_x x = record no_regs { x = x }

-- LDA $FF,X with X = 2 stays in the zero page: it reads $0001, in 4 cycles
zero_page_wraps : step (with_memory (0xB5 ∷ 0xFF ∷ []) (with_x 2) 7)
    ≡ Ok (with_memory (0xB5 ∷ 0xFF ∷ []) (record (with_x 2) { a = 0xFF; pc = 2; flags = record no_flags { n = true } }) 11)
unfolding step attempt execution past_instruction stores after_operation load regs_after_read operand after_operand effective_address operation_of
    row_at find_row table documented_opcodes is_port byte_read after_read
zero_page_wraps = refl

-- LDA $12FF,X with X = 1 leaves the page: 5 cycles
page_left : step (with_memory (0xBD ∷ 0xFF ∷ 0x12 ∷ []) (with_x 1) 7)
    ≡ Ok (with_memory (0xBD ∷ 0xFF ∷ 0x12 ∷ []) (record (with_x 1) { pc = 3; flags = record no_flags { z = true } }) 12)
unfolding step attempt execution past_instruction stores after_operation load regs_after_read operand after_operand effective_address address_at
    operation_of row_at find_row table documented_opcodes is_port byte_read after_read
page_left = refl

-- an opcode without a row
undocumented : step (with_memory (0x02 ∷ []) no_regs 7) ≡ Err (event_fault.Undocumented 2 0)
unfolding step attempt row_at find_row table documented_opcodes
undocumented = refl

-- a count at which no step is made, and the highest at which one is
cycles_full : step (with_memory (0xEA ∷ []) no_regs 18446744073709551600) ≡ Err event_fault.CyclesFull
unfolding step
cycles_full = refl

cycles_not_full : step (with_memory (0xEA ∷ []) no_regs 18446744073709551599) ≡ Ok (with_memory (0xEA ∷ []) (record no_regs { pc = 1 }) 18446744073709551601)
unfolding step attempt execution past_instruction stores after_operation regs_after_move effective_address operation_of row_at find_row table documented_opcodes
cycles_not_full = refl

-- the same of a reset
reset_full : reset_of (with_memory (0xEA ∷ []) no_regs 18446744073709551600) ≡ Err event_fault.CyclesFull
unfolding reset_of
reset_full = refl

reset_not_full : reset_of (with_memory (0xEA ∷ []) no_regs 18446744073709551599)
    ≡ Ok (with_memory (0xEA ∷ []) (record no_regs { s = 0xFD; flags = record no_flags { i = true } }) 18446744073709551606)
unfolding reset_of reset_state address_at
reset_not_full = refl

-- ---- steps in profile C

-- what profile C adds has no row in profile N
added_opcode : step (in_profile N (0x80 ∷ 0x02 ∷ []) no_regs 7) ≡ Err (event_fault.Undocumented 0x80 0)
unfolding step attempt row_at find_row table documented_opcodes
added_opcode = refl

-- BRA $0301 at $02FD leaves the page: 4 cycles
branch_always : step (in_profile C (replicate 0x2FD 0 ++ 0x80 ∷ 0x02 ∷ []) (record no_regs { pc = 0x2FD }) 7)
    ≡ Ok (in_profile C (replicate 0x2FD 0 ++ 0x80 ∷ 0x02 ∷ []) (record no_regs { pc = 0x301 }) 11)
unfolding step attempt execution past_instruction stores after_operation branch branches effective_address operation_of row_at find_row table
    documented_opcodes added_opcodes
branch_always = refl

-- STZ $03 stores 0, changes no flag and takes 3 cycles
store_zero : step (in_profile C (0x64 ∷ 0x03 ∷ 0xFF ∷ 0xFF ∷ []) (after_load 0) 7) ≡ Ok (in_profile C (0x64 ∷ 0x03 ∷ 0xFF ∷ 0 ∷ []) (after_load 2) 10)
unfolding step attempt execution past_instruction stores after_operation store store_value after_write overflows is_port is_rom effective_address
    operation_of row_at find_row table documented_opcodes added_opcodes
store_zero = refl

-- memory with a pointer at $FF and $00, LDA ($FF) at $0200, and the byte that it loads at $0310
abbrev with_pointer : List ℕ
with_pointer = 0x03 ∷ replicate 0xFE 0 ++ 0x10 ∷ replicate 0x100 0 ++ 0xB2 ∷ 0xFF ∷ replicate 0x10E 0 ++ 0x80 ∷ []

-- LDA ($FF) takes the pointer's high byte at $0000, in 5 cycles
load_indirect : step (in_profile C with_pointer (record no_regs { pc = 0x200 }) 7) ≡ Ok (in_profile C with_pointer (after_load 0x202) 12)
unfolding step attempt execution past_instruction stores after_operation load regs_after_read operand after_operand effective_address address_in_page
    operation_of row_at find_row table documented_opcodes added_opcodes is_port byte_read after_read
load_indirect = refl

-- memory with JMP ($00FF) at 0, and bytes at $00FF and $0100
abbrev with_jump : List ℕ
with_jump = 0x6C ∷ 0xFF ∷ 0x00 ∷ replicate 0xFC 0 ++ 0x10 ∷ 0x03 ∷ []

-- JMP ($00FF) takes the high byte at $0100 in profile C, and at $0000 in profile N, in 5 cycles
-- both
jump_over_page : step (in_profile C with_jump no_regs 7) ≡ Ok (in_profile C with_jump (record no_regs { pc = 0x0310 }) 12)
unfolding step attempt execution past_instruction stores after_operation effective_address jump_target address_at operation_of row_at find_row table
    documented_opcodes added_opcodes
jump_over_page = refl

jump_in_page : step (in_profile N with_jump no_regs 7) ≡ Ok (in_profile N with_jump (record no_regs { pc = 0x6C10 }) 12)
unfolding step attempt execution past_instruction stores after_operation effective_address jump_target address_at address_in_page operation_of row_at
    find_row table documented_opcodes
jump_in_page = refl

-- registers at a BRK at $0200 in decimal mode, and memory after it
abbrev decimal_regs : Regs
decimal_regs = record no_regs { s = 0xFD; pc = 0x200; flags = record no_flags { d = true } }

abbrev with_return : List ℕ
with_return = replicate 0x1FB 0 ++ 0x38 ∷ 0x02 ∷ 0x02 ∷ replicate 3 0

-- BRK pushes the status with D, and then clears D in profile C and leaves it in profile N
break_clears_decimal : step (in_profile C (replicate 0x201 0) decimal_regs 7)
    ≡ Ok (in_profile C with_return (record no_regs { s = 0xFA; flags = record no_flags { i = true } }) 14)
unfolding step attempt execution past_instruction stores after_operation break_entry interrupt_sequence after_push status effective_address address_at
    operation_of row_at find_row table documented_opcodes added_opcodes
break_clears_decimal = refl

break_keeps_decimal : step (in_profile N (replicate 0x201 0) decimal_regs 7)
    ≡ Ok (in_profile N with_return (record no_regs { s = 0xFA; flags = record no_flags { d = true; i = true } }) 14)
unfolding step attempt execution past_instruction stores after_operation break_entry interrupt_sequence after_push status effective_address address_at
    operation_of row_at find_row table documented_opcodes
break_keeps_decimal = refl

-- PLX pulls X, with N and Z of it, in 4 cycles
abbrev with_pulled : List ℕ
with_pulled = 0xFA ∷ replicate 0x1FD 0 ++ 0x80 ∷ []

pull_into_x : step (in_profile C with_pulled (record no_regs { s = 0xFD }) 7)
    ≡ Ok (in_profile C with_pulled (record no_regs { x = 0x80; s = 0xFE; pc = 1; flags = record no_flags { n = true } }) 11)
unfolding step attempt execution past_instruction stores after_operation pull_x stack_top after_pull effective_address operation_of row_at find_row
    table documented_opcodes added_opcodes
pull_into_x = refl

-- INC A
increment_a : step (in_profile C (0x1A ∷ []) (record no_regs { a = 0xFF }) 7)
    ≡ Ok (in_profile C (0x1A ∷ []) (record no_regs { pc = 1; flags = record no_flags { z = true } }) 9)
unfolding step attempt execution past_instruction stores after_operation modify_a modify_sum effective_address operation_of row_at find_row table
    documented_opcodes added_opcodes
increment_a = refl

-- ---- the port's control byte

-- a bus with 0 or 1 in the control byte, and a port at $F000
abbrev controlled : Bool → Bus
controlled control = record { map = plain_map N; memory = []; given = []; taken = 0; out = []; control = control }

-- an odd byte stored at base+3 makes it 1, an even one 0, and base+3 gives it back; the same byte
-- at base+2 leaves it
control_of_odd : after_write (controlled false) 0xF003 0x83 ≡ controlled true
unfolding after_write is_port
control_of_odd = refl

control_of_even : after_write (controlled true) 0xF003 0xFE ≡ controlled false
unfolding after_write is_port
control_of_even = refl

control_elsewhere : after_write (controlled false) 0xF002 0x83 ≡ controlled false
unfolding after_write is_port
control_elsewhere = refl

control_is_one : byte_read (controlled true) 0xF003 ≡ 1
unfolding byte_read is_port
control_is_one = refl

control_is_zero : byte_read (controlled false) 0xF003 ≡ 0
unfolding byte_read is_port
control_is_zero = refl

-- a machine at a NOP at 0 with one byte of input; the control byte, how many input bytes were
-- taken, I and the pending NMI are given
abbrev asking : Bool → ℕ → Bool → Bool → State
asking control taken i nmi = record {
  bus = record { map = plain_map N; memory = 0xEA ∷ replicate 0x1FF 0; given = 0x41 ∷ []; taken = taken; out = []; control = control };
  regs = record no_regs { s = 0xFF; flags = record no_flags { i = i } };
  irq = false;
  nmi = nmi;
  cycles = 7;
}

-- after an entry: PC and the status are on the stack, I is set, PC comes from the vector, where 0
-- stands; the input still waits
abbrev after_entry : State
after_entry = record {
  bus = record { map = plain_map N; memory = 0xEA ∷ replicate 0x1FC 0 ++ 0x20 ∷ 0 ∷ 0 ∷ []; given = 0x41 ∷ []; taken = 0; out = []; control = true };
  regs = record no_regs { s = 0xFC; flags = record no_flags { i = true } };
  irq = false;
  nmi = false;
  cycles = 14;
}

-- after the NOP
abbrev after_nop : State → State
after_nop s = record s { regs = record s.regs { pc = 1 }; cycles = 9 }

-- input waits and I is 0: the IRQ entry, though the line is 0
input_asks : step (asking true 0 false false) ≡ Ok after_entry
unfolding step interrupt_entry interrupt_sequence after_push status address_at
input_asks = refl

-- a pending NMI goes first, and is forgotten
nmi_before_input : step (asking true 0 false true) ≡ Ok after_entry
unfolding step interrupt_entry interrupt_sequence after_push status address_at
nmi_before_input = refl

-- no input waits: the NOP is made
no_input_asks : step (asking true 1 false false) ≡ Ok (after_nop (asking true 1 false false))
unfolding step attempt execution past_instruction stores after_operation regs_after_move effective_address operation_of row_at find_row table documented_opcodes
no_input_asks = refl

-- the control byte is 0: the NOP is made
input_polled : step (asking false 0 false false) ≡ Ok (after_nop (asking false 0 false false))
unfolding step attempt execution past_instruction stores after_operation regs_after_move effective_address operation_of row_at find_row table documented_opcodes
input_polled = refl

-- I is 1: the NOP is made
input_masked : step (asking true 0 true false) ≡ Ok (after_nop (asking true 0 true false))
unfolding step attempt execution past_instruction stores after_operation regs_after_move effective_address operation_of row_at find_row table documented_opcodes
input_masked = refl

-- a reset makes the control byte 0, and leaves the input
control_reset : (reset_state (asking true 0 false false)).bus ≡ record (asking true 0 false false).bus { control = false }
unfolding reset_state
control_reset = refl

-- the entries' vectors: the IRQ's at $FFFE, the NMI's at $FFFA
abbrev with_vectors : Bool → State
with_vectors nmi = record (asking true 0 false nmi) {
  bus = record (asking true 0 false nmi).bus
      { memory = replicate 0xFFFA 0 ++ 0x00 ∷ 0x03 ∷ 0x00 ∷ 0x02 ∷ 0x00 ∷ 0x04 ∷ [] };
}

abbrev pc_after : Result State EventFault → ℕ
pc_after (Ok s) = s.regs.pc
pc_after (Err f) = 0

vector_irq : pc_after (step (with_vectors false)) ≡ 0x0400
unfolding step interrupt_entry interrupt_sequence after_push status address_at
vector_irq = refl

vector_nmi : pc_after (step (with_vectors true)) ≡ 0x0300
unfolding step interrupt_entry interrupt_sequence after_push status address_at
vector_nmi = refl

-- maps
map_default : is_map None 0xF000 ≡ true
unfolding is_map
map_default = refl

map_with_rom : is_map (Some (0x8000, 0x8FFF)) 0xF000 ≡ true
unfolding is_map
map_with_rom = refl

map_port_too_high : is_map None 0xFFF8 ≡ false
unfolding is_map
map_port_too_high = refl

map_rom_meets_port : is_map (Some (0xEF00, 0xF003)) 0xF000 ≡ false
unfolding is_map
map_rom_meets_port = refl

-- without a port the ROM may have any address from $0200 on, and no address is the port's
map_without_port : is_map (Some (0x0200, 0xFFFF)) no_port ≡ true
unfolding is_map
map_without_port = refl

map_past_the_end : is_map None 0x10004 ≡ false
unfolding is_map
map_past_the_end = refl

no_address_is_its_port : is_port (record { profile = N; rom = None; port = no_port }) 0xFFFF ≡ false
unfolding is_port
no_address_is_its_port = refl

-- lines: LF and CR LF end one, a lone CR does not, and the last needs no end
cut_lines : lines_of (codes "a\nb\r\n\nc\rd") ≡ codes "a" ∷ codes "b" ∷ [] ∷ codes "c\rd" ∷ []
unfolding lines_from
cut_lines = refl

-- commands
command_regs : command_of (codes "  regs ") ≡ command.Regs
unfolding command_of command_of_words
command_regs = refl

command_mem : command_of (codes "mem 01fb 01FD") ≡ command.Mem 0x01FB 0x01FD
unfolding command_of command_of_words
command_mem = refl

command_mem_backwards : command_of (codes "mem 0300 0200") ≡ command.Bad
unfolding command_of command_of_words
command_mem_backwards = refl

command_set : command_of (codes "set P 30") ≡ command.Set (setting.P 0x30)
unfolding command_of command_of_words set_command
command_set = refl

command_patch : command_of (codes "patch 0200 4c 00 02") ≡ command.Patch 0x0200 (0x4C ∷ 0 ∷ 2 ∷ []) 3
unfolding command_of command_of_words
command_patch = refl

command_patch_of_four : command_of (codes "patch 0200 01 02 03 04") ≡ command.Bad
unfolding command_of command_of_words
command_patch_of_four = refl

command_small_register : command_of (codes "set a 01") ≡ command.Bad
unfolding command_of command_of_words set_command
command_small_register = refl

command_irq : command_of (codes "irq 1") ≡ command.Irq true
unfolding command_of command_of_words
command_irq = refl

command_irq_of_two : command_of (codes "irq 2") ≡ command.Bad
unfolding command_of command_of_words
command_irq_of_two = refl

command_in : command_of (codes "in 41 0d") ≡ command.Input (0x41 ∷ 0x0D ∷ 0 ∷ 0 ∷ 0 ∷ 0 ∷ 0 ∷ 0 ∷ 0 ∷ 0 ∷ 0 ∷ 0 ∷ 0 ∷ 0 ∷ 0 ∷ 0 ∷ []) 2
unfolding command_of command_of_words
command_in = refl

command_in_of_17 : command_of (codes "in 00 01 02 03 04 05 06 07 08 09 0A 0B 0C 0D 0E 0F 10") ≡ command.Bad
unfolding command_of command_of_words
command_in_of_17 = refl

command_upper_case : command_of (codes "STEP") ≡ command.Bad
unfolding command_of command_of_words
command_upper_case = refl

-- replies
print_undocumented : fault_line (event_fault.Undocumented 0x02 0x0200) ≡ codes "! FAULT 02 AT 0200\n"
unfolding fault_line refused_text
print_undocumented = refl

print_console_full : fault_line event_fault.ConsoleFull ≡ codes "! CONSOLE FULL\n"
unfolding fault_line refused_text
print_console_full = refl

print_cycles_full : fault_line event_fault.CyclesFull ≡ codes "! CYCLES FULL\n"
unfolding fault_line refused_text
print_cycles_full = refl

print_registers : register_line (with_memory [] (record no_regs { s = 0xFD; flags = record no_flags { i = true } }) 7)
    ≡ codes "A=00 X=00 Y=00 S=FD P=24 PC=0000 CYC=" ++ decimal 7 ++ 10 ∷ []
unfolding register_line status
print_registers = refl

print_memory : memory_rows (1 ∷ 2 ∷ 3 ∷ 4 ∷ 5 ∷ 6 ∷ 7 ∷ 8 ∷ 9 ∷ 10 ∷ 11 ∷ 12 ∷ 13 ∷ 14 ∷ 15 ∷ 16 ∷ 17 ∷ 18 ∷ 19 ∷ []) 1 17
    ≡ codes "0001  02 03 04 05 06 07 08 09 0A 0B 0C 0D 0E 0F 10 11\n0011  12\n"
unfolding memory_rows memory_row spaced_bytes
print_memory = refl
