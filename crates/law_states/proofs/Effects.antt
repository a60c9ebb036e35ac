-- What each operation makes of a state: a bus with the same map, registers in range, and at most
-- two cycles more.
use Rattle.std.proofs.Common.{◌≡◌, ℕ, ◌+◌, ◌*◌, ◌/◌, ◌%◌, ◌<◌, ◌≤◌, Bool, true, false, cond, refl, ◌∙◌, arith}
use Rattle.std.specs.Prelude.{slice_index, not, ◌&&◌}
use Rattle.model.specs.State.{Bus, State, byte_read, after_read, overflows, after_write, bus_with_byte, IsBus, AreRegs}
use Rattle.model.specs.Operand.{byte_at, is_immediate, is_accumulator}
use Rattle.model.specs.Arithmetic.{bit}
use Rattle.model.specs.Step.{stores}
use Rattle.model.specs.Effect.{operand, after_operand, load, store, modify_a, modify_memory, branches, branch, with_pc, after_push, stack_top, after_pull, stack_top_address, pull_a, pull_x, pull_y, pull_status, call, return_from_call, return_from_interrupt, interrupt_sequence, break_entry, after_operation, status, flags_of_byte, modify_sum, store_value}
use Rattle.model.specs.declared.registers.Regs.{Regs}
use Rattle.model.specs.declared.registers.Flags.{Flags}
use Rattle.model.specs.declared.instruction.EffectiveAddress.{EffectiveAddress}
use Rattle.model.specs.declared.instruction.Mode.{Mode}
use Rattle.model.specs.declared.operation.Operation.{Operation}
use Rattle.model.specs.declared.operation.Operation.TheVariants as operation
use Rattle.model.specs.declared.operation.ReadOp.{ReadOp}
use Rattle.model.specs.declared.operation.StoreOp.{StoreOp}
use Rattle.model.specs.declared.operation.ModifyOp.{ModifyOp}
use Rattle.model.specs.declared.operation.BranchOp.{BranchOp}
use Rattle.law_states.proofs.Numbers.{byte_small, word_small, pulled_small, bit_small, modified_small, status_small, with_flags, loaded_small, stored_small, moved_small}
use Rattle.law_states.proofs.Buses.{Becomes, stays, then, becomes_stored, stack_is_plain, becomes_read, read_small, becomes_written, room_after_read}

-- what has a bus, and registers in range
pub record IsSound (state : State) : Type 0 where
  pub bus : IsBus state.bus
  pub regs : AreRegs state.regs

-- a state that another becomes
pub record Leads (before after : State) : Type 0 where
  pub bus : Becomes before.bus after.bus
  pub regs : AreRegs after.regs
  pub cycles : after.cycles ≤ before.cycles + 2

pub sound_after : (before after : State) → Leads before after → IsSound after
sound_after before after h = record { bus = h.bus.bus; regs = h.regs }

-- ---- loads and stores

operand_small : (immediate : Bool) (bus : Bus) (address : ℕ) → IsBus bus
    → cond immediate (slice_index bus.memory address) (byte_read bus address) < 256
operand_small true bus address h = byte_small bus.memory address h.memory
operand_small false bus address h = read_small bus address h

after_operand_is : (immediate : Bool) (bus : Bus) (address : ℕ) → IsBus bus
    → Becomes bus (cond immediate bus (after_read bus address))
after_operand_is true bus address h = stays bus h
after_operand_is false bus address h = becomes_read bus address h

load_leads : (op : ReadOp) (mode : Mode) (place : EffectiveAddress) (s : State) → IsSound s
    → Leads s (load op mode place s)
unfolding load operand after_operand
load_leads op mode place s h = record {
  bus = after_operand_is (is_immediate mode) s.bus place.address h.bus;
  regs = loaded_small op _ s.regs (operand_small (is_immediate mode) s.bus place.address h.bus) h.regs;
  cycles = omega arith;
}

store_leads : (op : StoreOp) (place : EffectiveAddress) (s : State) → IsSound s
    → overflows s.bus place.address ≡ false → Leads s (store op place s)
unfolding store
store_leads op place s h room = record {
  bus = becomes_written s.bus place.address (store_value op s.regs) h.bus (stored_small op s.regs h.regs) room;
  regs = h.regs;
  cycles = omega arith;
}

with_a_small : (regs : Regs) (value : ℕ) (flags : Flags) → value < 256 → AreRegs regs → AreRegs (record regs { a = value; flags = flags })
with_a_small regs value flags k h = record { a = k; x = h.x; y = h.y; s = h.s; pc = h.pc }

with_x_small : (regs : Regs) (value : ℕ) (flags : Flags) → value < 256 → AreRegs regs → AreRegs (record regs { x = value; flags = flags })
with_x_small regs value flags k h = record { a = h.a; x = k; y = h.y; s = h.s; pc = h.pc }

with_y_small : (regs : Regs) (value : ℕ) (flags : Flags) → value < 256 → AreRegs regs → AreRegs (record regs { y = value; flags = flags })
with_y_small regs value flags k h = record { a = h.a; x = h.x; y = k; s = h.s; pc = h.pc }

modify_a_leads : (op : ModifyOp) (s : State) → IsSound s → Leads s (modify_a op s)
unfolding modify_a
modify_a_leads op s h = record {
  bus = stays s.bus h.bus;
  regs = with_a_small s.regs _ _ (modified_small op s.regs.a s.regs.flags.c h.regs.a) h.regs;
  cycles = omega arith;
}

modify_memory_leads : (op : ModifyOp) (place : EffectiveAddress) (s : State) → IsSound s
    → overflows s.bus place.address ≡ false → Leads s (modify_memory op place s)
unfolding modify_memory
modify_memory_leads op place s h room =
    let sum = modify_sum op (byte_read s.bus place.address) s.regs.flags.c in
    let read = becomes_read s.bus place.address h.bus in
    let small : sum.value < 256 = modified_small op (byte_read s.bus place.address) s.regs.flags.c (read_small s.bus place.address h.bus) in
    let written = becomes_written (after_read s.bus place.address) place.address sum.value read.bus small
    (room_after_read s.bus place.address place.address ∙ room) in
    record {
      bus = then s.bus (after_read s.bus place.address) (after_write (after_read s.bus place.address) place.address sum.value) read written;
      regs = with_flags s.regs _ h.regs;
      cycles = omega arith;
    }

modify_leads : (accumulator : Bool) (op : ModifyOp) (place : EffectiveAddress) (s : State)
    → IsSound s → (not accumulator && overflows s.bus place.address) ≡ false
    → Leads s (cond accumulator (modify_a op s) (modify_memory op place s))
modify_leads true op place s h room = modify_a_leads op s h
modify_leads false op place s h room = modify_memory_leads op place s h room

-- ---- jumps

pub jumped_leads : (before s : State) (address : ℕ) → Leads before s → address < 65536
    → Leads before (with_pc s address)
jumped_leads before s address h k = record {
  bus = h.bus;
  regs = record { a = h.regs.a; x = h.regs.x; y = h.regs.y; s = h.regs.s; pc = k };
  cycles = h.cycles;
}

same_leads : (s : State) → IsSound s → Leads s s
same_leads s h = record { bus = stays s.bus h.bus; regs = h.regs; cycles = omega arith }

branch_by : (taken : Bool) (place : EffectiveAddress) (s : State) → IsSound s
    → place.address < 65536
    → Leads s (cond taken (record s { regs = record s.regs { pc = place.address }; cycles = s.cycles + 1 + bit place.crossed }) s)
branch_by true place s h k = record {
  bus = stays s.bus h.bus;
  regs = record { a = h.regs.a; x = h.regs.x; y = h.regs.y; s = h.regs.s; pc = k };
  cycles = omega (arith, bit_small place.crossed);
}
branch_by false place s h k = same_leads s h

branch_leads : (op : BranchOp) (place : EffectiveAddress) (s : State) → IsSound s
    → place.address < 65536 → Leads s (branch op place s)
unfolding branch
branch_leads op place s h k = branch_by (branches op s.regs.flags) place s h k

-- ---- the stack

pub pushed_leads : (before s : State) (value : ℕ) → Leads before s → value < 256
    → Leads before (after_push s value)
unfolding after_push
pushed_leads before s value h k =
    let one = becomes_stored s.bus (256 + s.regs.s) value h.bus.bus k (stack_is_plain s.bus s.regs.s h.bus.bus h.regs.s) in
    record {
      bus = then before.bus s.bus (bus_with_byte s.bus (256 + s.regs.s) value) h.bus one;
      regs = record { a = h.regs.a; x = h.regs.x; y = h.regs.y; s = omega arith; pc = h.regs.pc };
      cycles = h.cycles;
    }

after_pull_leads : (before s : State) → Leads before s → Leads before (after_pull s)
unfolding after_pull
after_pull_leads before s h = record {
  bus = h.bus;
  regs = record { a = h.regs.a; x = h.regs.x; y = h.regs.y; s = omega arith; pc = h.regs.pc };
  cycles = h.cycles;
}

bus-after_pull : (s : State) → (after_pull s).bus ≡ s.bus
unfolding after_pull
bus-after_pull s = refl

pulled_word_small : (before s : State) → Leads before s → stack_top_address s < 65536
unfolding stack_top_address
pulled_word_small before s h =
    let low = pulled_small s h.bus.bus in
    let high = pulled_small (after_pull s) (after_pull_leads before s h).bus.bus in
    omega arith

flags_lead : (before s : State) (flags : Flags) → Leads before s → Leads before (record s { regs = record s.regs { flags = flags } })
flags_lead before s flags h = record { bus = h.bus; regs = with_flags s.regs flags h.regs; cycles = h.cycles }

pull_a_leads : (s : State) → IsSound s → Leads s (pull_a s)
unfolding pull_a
pull_a_leads s h =
    let after = after_pull_leads s s (same_leads s h) in
    record { bus = after.bus; regs = with_a_small (after_pull s).regs _ _ (pulled_small s h.bus) after.regs; cycles = after.cycles }

pull_x_leads : (s : State) → IsSound s → Leads s (pull_x s)
unfolding pull_x
pull_x_leads s h =
    let after = after_pull_leads s s (same_leads s h) in
    record { bus = after.bus; regs = with_x_small (after_pull s).regs _ _ (pulled_small s h.bus) after.regs; cycles = after.cycles }

pull_y_leads : (s : State) → IsSound s → Leads s (pull_y s)
unfolding pull_y
pull_y_leads s h =
    let after = after_pull_leads s s (same_leads s h) in
    record { bus = after.bus; regs = with_y_small (after_pull s).regs _ _ (pulled_small s h.bus) after.regs; cycles = after.cycles }

pull_status_leads : (s : State) → IsSound s → Leads s (pull_status s)
unfolding pull_status
pull_status_leads s h = flags_lead s (after_pull s) (flags_of_byte (stack_top s)) (after_pull_leads s s (same_leads s h))

call_leads : (place : EffectiveAddress) (s : State) → IsSound s → Leads s (call place s)
unfolding call
call_leads place s h =
    let last = (s.regs.pc + 65535) % 65536 in
    let high = pushed_leads s s (last / 256) (same_leads s h) (omega arith) in
    let low = pushed_leads s (after_push s (last / 256)) (last % 256) high (omega arith) in
    let pushes = after_push (after_push s (last / 256)) (last % 256) in
    let byte = byte_small pushes.bus.memory (last % 65536) low.bus.bus.memory in
    jumped_leads s pushes (place.address % 256 + 256 * byte_at pushes.bus last) low (omega arith)

return_leads : (s : State) → IsSound s → Leads s (return_from_call s)
unfolding return_from_call
return_leads s h =
    jumped_leads s (after_pull (after_pull s)) ((stack_top_address s + 1) % 65536)
    (after_pull_leads s (after_pull s) (after_pull_leads s s (same_leads s h))) (omega arith)

return_from_interrupt_leads : (s : State) → IsSound s → Leads s (return_from_interrupt s)
unfolding return_from_interrupt
return_from_interrupt_leads s h =
    let flags = pull_status_leads s h in
    jumped_leads s (after_pull (after_pull (pull_status s))) (stack_top_address (pull_status s))
    (after_pull_leads s (after_pull (pull_status s)) (after_pull_leads s (pull_status s) flags)) (pulled_word_small s (pull_status s) flags)

pub interrupted_leads : (s : State) (return : ℕ) (b : Bool) (vector : ℕ) → IsSound s
    → return < 65536 → Leads s (interrupt_sequence s return b vector)
unfolding interrupt_sequence
interrupted_leads s return b vector h k =
    let high = pushed_leads s s (return / 256) (same_leads s h) (omega arith) in
    let low = pushed_leads s (after_push s (return / 256)) (return % 256) high (omega arith) in
    let last = pushed_leads s (after_push (after_push s (return / 256)) (return % 256)) (status b s.regs.flags) low (status_small b s.regs.flags) in
    let regs = last.regs in
    record {
      bus = last.bus;
      regs = record { a = regs.a; x = regs.x; y = regs.y; s = regs.s; pc = word_small s.bus vector h.bus };
      cycles = last.cycles;
    }

break_leads : (s : State) → IsSound s → Leads s (break_entry s)
unfolding break_entry
break_leads s h = interrupted_leads s ((s.regs.pc + 1) % 65536) true 0xFFFE h (omega arith)

-- ---- all operations

pub performed_leads : (op : Operation) (mode : Mode) (place : EffectiveAddress) (s : State)
    → IsSound s → place.address < 65536 → (stores op mode && overflows s.bus place.address) ≡ false
    → Leads s (after_operation op mode place s)
unfolding after_operation stores
performed_leads (operation.Read op) mode place s h k room = load_leads op mode place s h
performed_leads (operation.Store op) mode place s h k room = store_leads op place s h room
performed_leads (operation.Modify op) mode place s h k room = modify_leads (is_accumulator mode) op place s h room
performed_leads (operation.Register op) mode place s h k room = record { bus = stays s.bus h.bus; regs = moved_small op s.regs h.regs; cycles = omega arith }
performed_leads (operation.Branch op) mode place s h k room = branch_leads op place s h k
performed_leads operation.PushA mode place s h k room = pushed_leads s s s.regs.a (same_leads s h) h.regs.a
performed_leads operation.PushX mode place s h k room = pushed_leads s s s.regs.x (same_leads s h) h.regs.x
performed_leads operation.PushY mode place s h k room = pushed_leads s s s.regs.y (same_leads s h) h.regs.y
performed_leads operation.PushStatus mode place s h k room = pushed_leads s s (status true s.regs.flags) (same_leads s h) (status_small true s.regs.flags)
performed_leads operation.PullA mode place s h k room = pull_a_leads s h
performed_leads operation.PullX mode place s h k room = pull_x_leads s h
performed_leads operation.PullY mode place s h k room = pull_y_leads s h
performed_leads operation.PullStatus mode place s h k room = pull_status_leads s h
performed_leads operation.Jump mode place s h k room = jumped_leads s s place.address (same_leads s h) k
performed_leads operation.Call mode place s h k room = call_leads place s h
performed_leads operation.Return mode place s h k room = return_leads s h
performed_leads operation.ReturnInterrupt mode place s h k room = return_from_interrupt_leads s h
performed_leads operation.Break mode place s h k room = break_leads s h
