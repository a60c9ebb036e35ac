-- Bytes, addresses and cycle counts stay in range.
use Rattle.std.proofs.Common.{◌≡◌, ℕ, ◌+◌, ◌*◌, ◌/◌, ◌%◌, ◌<◌, ◌≤◌, zero, suc, Bool, true, false, List, [], ◌∷◌, map, Option, Some, None, refl, sym, ap, ◌∙◌, arith, get_or}
use Rattle.std.specs.Prelude.{slice_index, nat_le, not, ℤ, pos, negsuc, ◌+ℤ◌, ◌-ℤ◌, if◌then◌else◌}
use Rattle.std.specs.Int.Signed.{lt_z}
use Rattle.std.specs.Int.Bits.{and_lt}
use Rattle.std.specs.List.{range_with_len}
use Rattle.std.proofs.lemmas.Nat.{or_lt, xor_lt}
use Rattle.std.proofs.lemmas.Bool.Decides.{nat_tests}
use Rattle.std.proofs.lemmas.List.Elements.{All-head, All-tail}
use Rattle.std.proofs.lemmas.List.FromFn.{get_or-map-range_with_len}
use Rattle.model.specs.State.{Bus, State, AreBytes, IsBus, AreRegs}
use Rattle.model.specs.Operand.{address_at, address_in_page, jump_target, effective_address, next_byte}
use Rattle.model.specs.Arithmetic.{bit, modulo, high_part, sbc_low, adc, sbc, asl, rol, lsr, ror}
use Rattle.model.specs.Effect.{status, modify_sum, regs_after_read, store_value, regs_after_move, stack_top}
use Rattle.model.specs.OpcodeTable.{row_at, find_row, table, documented_opcodes, added_opcodes}
use Rattle.model.specs.declared.registers.Regs.{Regs}
use Rattle.model.specs.declared.registers.Flags.{Flags}
use Rattle.model.specs.declared.instruction.Profile.{Profile}
use Rattle.model.specs.declared.instruction.Profile.TheVariants.{N, C}
use Rattle.model.specs.declared.instruction.Row.{Row}
use Rattle.model.specs.declared.instruction.Mode.{Mode}
use Rattle.model.specs.declared.instruction.Mode.TheVariants.{Imp, Acc, Imm, Zp, ZpX, ZpY, Abs, AbsX, AbsY, IndX, IndY, Ind, Rel, IndZ}
use Rattle.model.specs.declared.operation.ReadOp.{ReadOp}
use Rattle.model.specs.declared.operation.ReadOp.TheVariants as read_op
use Rattle.model.specs.declared.operation.StoreOp.{StoreOp}
use Rattle.model.specs.declared.operation.StoreOp.TheVariants as store_op
use Rattle.model.specs.declared.operation.ModifyOp.{ModifyOp}
use Rattle.model.specs.declared.operation.ModifyOp.TheVariants as modify_op
use Rattle.model.specs.declared.operation.RegisterOp.{RegisterOp}
use Rattle.model.specs.declared.operation.RegisterOp.TheVariants as register_op

-- ---- bytes of memory

pub byte_small : (bytes : List ℕ) (k : ℕ) → AreBytes bytes → slice_index bytes k < 256
byte_small [] k h = omega arith
byte_small (b ∷ bytes) zero h = All-head (λ x. x < 256) b bytes h
byte_small (b ∷ bytes) (suc k) h = byte_small bytes k (All-tail (λ x. x < 256) b bytes h)

pub word_small : (bus : Bus) (address : ℕ) → IsBus bus → address_at bus address < 65536
unfolding address_at
word_small bus address h =
    let low = byte_small bus.memory (address % 65536) h.memory in
    let high = byte_small bus.memory ((address + 1) % 65536) h.memory in
    omega arith

word_in_page_small : (bus : Bus) (address : ℕ) → IsBus bus → address_in_page bus address < 65536
unfolding address_in_page
word_in_page_small bus address h =
    let low = byte_small bus.memory (address % 65536) h.memory in
    let high = byte_small bus.memory ((256 * (address / 256) + (address + 1) % 256) % 65536) h.memory in
    omega arith

jump_target_small : (profile : Profile) (bus : Bus) (pointer : ℕ) → IsBus bus
    → jump_target profile bus pointer < 65536
unfolding jump_target
jump_target_small N bus pointer h = word_in_page_small bus pointer h
jump_target_small C bus pointer h = word_small bus pointer h

pub place_small : (bus : Bus) (regs : Regs) (mode : Mode) → IsBus bus
    → (effective_address bus regs mode).address < 65536
unfolding effective_address
place_small bus regs Imp h = omega arith
place_small bus regs Acc h = omega arith
place_small bus regs Imm h = omega arith
place_small bus regs Zp h = let low = byte_small bus.memory (next_byte regs % 65536) h.memory in omega arith
place_small bus regs ZpX h = omega arith
place_small bus regs ZpY h = omega arith
place_small bus regs Abs h = word_small bus (next_byte regs) h
place_small bus regs AbsX h = omega arith
place_small bus regs AbsY h = omega arith
place_small bus regs IndX h = word_in_page_small bus _ h
place_small bus regs IndY h = omega arith
place_small bus regs Ind h = jump_target_small bus.map.profile bus _ h
place_small bus regs Rel h = omega arith
place_small bus regs IndZ h = word_in_page_small bus _ h

pub pulled_small : (state : State) → IsBus state.bus → stack_top state < 256
unfolding stack_top
pulled_small state h = byte_small state.bus.memory (256 + (state.regs.s + 1) % 256) h.memory

-- ---- what arithmetic gives

pub bit_small : (c : Bool) → bit c ≤ 1
bit_small true = omega arith
bit_small false = omega arith

adc_small : (a m : ℕ) (c d : Bool) → (adc a m c d).value < 256
unfolding adc
adc_small a m c true = omega arith
adc_small a m c false = omega arith

modulo_small : (z : ℤ) → modulo z 256 < 256
modulo_small (pos n) = omega arith
modulo_small (negsuc n) = omega arith

sbc_small : (a m : ℕ) (c d : Bool) → (sbc a m c d).value < 256
unfolding sbc
sbc_small a m c true =
    let difference = pos (high_part a) -ℤ pos (high_part m) +ℤ sbc_low a m c in
    modulo_small (if lt_z difference (pos 0) then difference -ℤ pos 0x60 else difference)
sbc_small a m c false = modulo_small (pos a -ℤ pos m -ℤ pos (bit (not c)))

pub modified_small : (op : ModifyOp) (m : ℕ) (c : Bool) → m < 256 → (modify_sum op m c).value < 256
unfolding modify_sum asl rol lsr ror
modified_small modify_op.Asl m c h = omega arith
modified_small modify_op.Rol m c h = omega arith
modified_small modify_op.Lsr m c h = omega arith
modified_small modify_op.Ror m c h = let one = bit_small c in omega arith
modified_small modify_op.Dec m c h = omega arith
modified_small modify_op.Inc m c h = omega arith

pub status_small : (b : Bool) (flags : Flags) → status b flags < 256
unfolding status
status_small b flags = omega (
  arith,
  bit_small flags.n,
  bit_small flags.v,
  bit_small b,
  bit_small flags.d,
  bit_small flags.i,
  bit_small flags.z,
  bit_small flags.c,
)

-- ---- registers

-- what has a new A, X, Y or S in range, and the same PC
with_value_a : (regs after : Regs) → AreRegs regs → after.a < 256 → after.x ≡ regs.x
    → after.y ≡ regs.y → after.s ≡ regs.s → after.pc ≡ regs.pc → AreRegs after
with_value_a regs after h a x y s pc = record { a = a; x = omega (arith, h.x); y = omega (arith, h.y); s = omega (arith, h.s); pc = omega (arith, h.pc) }

with_value_x : (regs after : Regs) → AreRegs regs → after.x < 256 → after.a ≡ regs.a
    → after.y ≡ regs.y → after.s ≡ regs.s → after.pc ≡ regs.pc → AreRegs after
with_value_x regs after h x a y s pc = record { a = omega (arith, h.a); x = x; y = omega (arith, h.y); s = omega (arith, h.s); pc = omega (arith, h.pc) }

with_value_y : (regs after : Regs) → AreRegs regs → after.y < 256 → after.a ≡ regs.a
    → after.x ≡ regs.x → after.s ≡ regs.s → after.pc ≡ regs.pc → AreRegs after
with_value_y regs after h y a x s pc = record { a = omega (arith, h.a); x = omega (arith, h.x); y = y; s = omega (arith, h.s); pc = omega (arith, h.pc) }

-- new flags alone
pub with_flags : (regs : Regs) (flags : Flags) → AreRegs regs → AreRegs (record regs { flags = flags })
with_flags regs flags h = record { a = h.a; x = h.x; y = h.y; s = h.s; pc = h.pc }

pub loaded_small : (op : ReadOp) (m : ℕ) (regs : Regs) → m < 256 → AreRegs regs
    → AreRegs (regs_after_read op m regs)
unfolding regs_after_read
loaded_small read_op.Ora m regs k h = with_value_a regs _ h (or_lt 8 regs.a m h.a k) refl refl refl refl
loaded_small read_op.And m regs k h = with_value_a regs _ h (and_lt 8 regs.a m h.a k) refl refl refl refl
loaded_small read_op.Eor m regs k h = with_value_a regs _ h (xor_lt 8 regs.a m h.a k) refl refl refl refl
loaded_small read_op.Adc m regs k h = with_value_a regs _ h (adc_small regs.a m regs.flags.c regs.flags.d) refl refl refl refl
loaded_small read_op.Lda m regs k h = with_value_a regs _ h k refl refl refl refl
loaded_small read_op.Cmp m regs k h = with_flags regs _ h
loaded_small read_op.Sbc m regs k h = with_value_a regs _ h (sbc_small regs.a m regs.flags.c regs.flags.d) refl refl refl refl
loaded_small read_op.Ldx m regs k h = with_value_x regs _ h k refl refl refl refl
loaded_small read_op.Ldy m regs k h = with_value_y regs _ h k refl refl refl refl
loaded_small read_op.Cpx m regs k h = with_flags regs _ h
loaded_small read_op.Cpy m regs k h = with_flags regs _ h
loaded_small read_op.Bit m regs k h = with_flags regs _ h

pub stored_small : (op : StoreOp) (regs : Regs) → AreRegs regs → store_value op regs < 256
unfolding store_value
stored_small store_op.Sta regs h = h.a
stored_small store_op.Stx regs h = h.x
stored_small store_op.Sty regs h = h.y
stored_small store_op.Stz regs h = omega arith

pub moved_small : (op : RegisterOp) (regs : Regs) → AreRegs regs → AreRegs (regs_after_move op regs)
unfolding regs_after_move
moved_small register_op.Clc regs h = with_flags regs _ h
moved_small register_op.Sec regs h = with_flags regs _ h
moved_small register_op.Cli regs h = with_flags regs _ h
moved_small register_op.Sei regs h = with_flags regs _ h
moved_small register_op.Clv regs h = with_flags regs _ h
moved_small register_op.Cld regs h = with_flags regs _ h
moved_small register_op.Sed regs h = with_flags regs _ h
moved_small register_op.Txa regs h = with_value_a regs _ h h.x refl refl refl refl
moved_small register_op.Tya regs h = with_value_a regs _ h h.y refl refl refl refl
moved_small register_op.Txs regs h = record { a = h.a; x = h.x; y = h.y; s = h.x; pc = h.pc }
moved_small register_op.Tay regs h = with_value_y regs _ h h.a refl refl refl refl
moved_small register_op.Tax regs h = with_value_x regs _ h h.a refl refl refl refl
moved_small register_op.Tsx regs h = with_value_x regs _ h h.s refl refl refl refl
moved_small register_op.Dey regs h = with_value_y regs _ h (omega arith) refl refl refl refl
moved_small register_op.Dex regs h = with_value_x regs _ h (omega arith) refl refl refl refl
moved_small register_op.Iny regs h = with_value_y regs _ h (omega arith) refl refl refl refl
moved_small register_op.Inx regs h = with_value_x regs _ h (omega arith) refl refl refl refl
moved_small register_op.Nop regs h = h

-- ---- cycles of a row, computed for all 256 bytes

abbrev is_quick : Option Row → Bool
is_quick None = true
is_quick (Some row) = nat_le row.cycles 7

all_quick : (profile : Profile) → map (λ opcode. is_quick (row_at profile opcode))
    (range_with_len 0 256) ≡ map (λ (opcode : ℕ). true) (range_with_len 0 256)
unfolding row_at find_row table documented_opcodes added_opcodes
all_quick N = refl
all_quick C = refl

quick : (profile : Profile) (opcode : ℕ) → opcode < 256 → is_quick (row_at profile opcode) ≡ true
quick profile opcode below =
    sym (get_or-map-range_with_len (λ opcode. is_quick (row_at profile opcode)) 0 256 opcode opcode true below (omega arith))
    ∙ ap (λ rows. get_or rows opcode true) (all_quick profile)
    ∙ get_or-map-range_with_len (λ (opcode : ℕ). true) 0 256 opcode opcode true below (omega arith)

pub cycles_small : (profile : Profile) (opcode : ℕ) (row : Row) → opcode < 256
    → row_at profile opcode ≡ Some row → row.cycles ≤ 7
cycles_small profile opcode row below e = let h : is_quick (Some row) ≡ true = rw e at (quick profile opcode below) in grind (arith, nat_tests)
