-- What a step makes of a state: it stores at its addresses alone, takes one byte of input at most, and
-- puts out one byte at most.
use Rattle.std.proofs.Common.{◌≡◌, ◌≢◌, ◌∙◌, ℕ, ◌+◌, ◌/◌, ◌%◌, ◌^◌, ◌<◌, ◌≤◌, Bool, true, false, cond, List, [], ◌∷◌, ◌++◌, length, Option, Some, None, Ok, Err, refl, sym, ap, subst, arith, append_assoc, append-nil, length-append}
use Rattle.std.specs.Prelude.{◌==◌, ◌&&◌, slice_index}
use Rattle.std.proofs.lemmas.List.{get_or-set_other, length-set}
use Rattle.model.specs.State.{AreBytes, Bus, State, after_read, after_write, bus_with_byte, byte_read, input_waits, is_port, is_rom}
use Rattle.model.specs.Operand.{effective_address, is_accumulator, is_immediate}
use Rattle.model.specs.Arithmetic.{bit}
use Rattle.model.specs.Effect.{after_operand, after_operation, after_pull, after_push, branch, branches, break_entry, call, interrupt_sequence, load, modify_a, modify_memory, modify_sum, operation_of, pull_a, pull_status, pull_x, pull_y, return_from_call, return_from_interrupt, status, store, store_value}
use Rattle.model.specs.OpcodeTable.{row_at}
use Rattle.model.specs.Step.{attempt, execution, interrupt_entry, past_instruction}
use Rattle.model.specs.declared.registers.Regs.{Regs}
use Rattle.model.specs.declared.instruction.EffectiveAddress.{EffectiveAddress}
use Rattle.model.specs.declared.instruction.Mode.{Mode}
use Rattle.model.specs.declared.instruction.Row.{Row}
use Rattle.model.specs.declared.operation.BranchOp.{BranchOp}
use Rattle.model.specs.declared.operation.ModifyOp.{ModifyOp}
use Rattle.model.specs.declared.operation.Operation.{Operation}
use Rattle.model.specs.declared.operation.Operation.TheVariants as operation
use Rattle.model.specs.declared.operation.ReadOp.{ReadOp}
use Rattle.model.specs.declared.operation.StoreOp.{StoreOp}
use Rattle.model.specs.declared.event.EventFault.TheVariants.{ConsoleFull}
use Rattle.cpu_step.specs.Access.{access_by, access_here, access_of, no_access, row_here}
use Rattle.cpu_step.specs.Stored.{below, stores_by, stores_here}
use Rattle.cpu_step.specs.declared.access.Access.{Access}
use Rattle.accesses.specs.Moments.{entry_stores}
use Rattle.law_states.proofs.Numbers.{bit_small, byte_small, cycles_small}
use Rattle.page_data.proofs.Memory.{Outside}

-- a bus whose memory differs at these addresses alone, with at most n bytes of input taken and m put
-- out
pub record Leads (n m : ℕ) (at : List ℕ) (a b : Bus) : Type 0 where
  pub map : b.map ≡ a.map
  pub given : b.given ≡ a.given
  pub size : length b.memory ≡ length a.memory
  pub memory : (k : ℕ) → Outside k at → slice_index b.memory k ≡ slice_index a.memory k
  pub taken_from : a.taken ≤ b.taken
  pub taken_to : b.taken ≤ a.taken + n
  pub out : (more : List ℕ) × (b.out ≡ a.out ++ more) × (length more ≤ m)

stays : (n m : ℕ) (at : List ℕ) (bus : Bus) → Leads n m at bus bus
stays n m at bus = record {
  map = refl;
  given = refl;
  size = refl;
  memory = λ k out. refl;
  taken_from = omega arith;
  taken_to = omega arith;
  out = ([], sym (append-nil bus.out), omega arith);
}

then : (n m i j k l : ℕ) (at : List ℕ) (a b c : Bus) → n + i ≤ k → m + j ≤ l → Leads n m at a b → Leads i j at b c → Leads k l at a c
then n m i j k l at a b c few short x y = record {
  map = y.map ∙ x.map;
  given = y.given ∙ x.given;
  size = y.size ∙ x.size;
  memory = λ q out. y.memory q out ∙ x.memory q out;
  taken_from = omega (arith, x.taken_from, y.taken_from);
  taken_to = omega (arith, x.taken_to, y.taken_to, few);
  out = (
    x.out.0 ++ y.out.0,
    y.out.1 ∙ ap (λ o. o ++ y.out.0) x.out.1 ∙ append_assoc a.out x.out.0 y.out.0,
    omega (arith, length-append x.out.0 y.out.0, x.out.2, y.out.2, short),
  );
}

-- ---- accesses

read_by : (at : List ℕ) (bus : Bus) (takes : Bool) → Leads 1 0 at bus (cond takes (record bus { taken = bus.taken + 1 }) bus)
read_by at bus true = record {
  map = refl;
  given = refl;
  size = refl;
  memory = λ k out. refl;
  taken_from = omega arith;
  taken_to = omega arith;
  out = ([], sym (append-nil bus.out), omega arith);
}
read_by at bus false = stays 1 0 at bus

read_leads : (at : List ℕ) (bus : Bus) (address : ℕ) → Leads 1 0 at bus (after_read bus address)
unfolding after_read
read_leads at bus address = read_by at bus ((address == bus.map.port + 1) && input_waits bus)

byte_leads : (n m : ℕ) (at : List ℕ) (bus : Bus) (address value : ℕ) → ((k : ℕ) → Outside k at → k ≢ address)
    → Leads n m at bus (bus_with_byte bus address value)
byte_leads n m at bus address value within = record {
  map = refl;
  given = refl;
  size = length-set bus.memory address value;
  memory = λ k out. get_or-set_other bus.memory address k value 0 (within k out);
  taken_from = omega arith;
  taken_to = omega arith;
  out = ([], sym (append-nil bus.out), omega arith);
}

write_by : (at : List ℕ) (bus : Bus) (address value : ℕ) (port first third rom : Bool) → ((k : ℕ) → Outside k at → k ≢ address)
    → Leads 0 1 at bus (cond port (cond first (record bus { out = bus.out ++ value ∷ [] }) (cond third (record bus { control = value % 2 == 1 }) bus))
    (cond rom bus (bus_with_byte bus address value)))
write_by at bus address value true true third rom within = record {
  map = refl;
  given = refl;
  size = refl;
  memory = λ k out. refl;
  taken_from = omega arith;
  taken_to = omega arith;
  out = (value ∷ [], refl, omega arith);
}
write_by at bus address value true false true rom within = record {
  map = refl;
  given = refl;
  size = refl;
  memory = λ k out. refl;
  taken_from = omega arith;
  taken_to = omega arith;
  out = ([], sym (append-nil bus.out), omega arith);
}
write_by at bus address value true false false rom within = stays 0 1 at bus
write_by at bus address value false first third true within = stays 0 1 at bus
write_by at bus address value false first third false within = byte_leads 0 1 at bus address value within

write_leads : (at : List ℕ) (bus : Bus) (address value : ℕ) → ((k : ℕ) → Outside k at → k ≢ address) → Leads 0 1 at bus (after_write bus address value)
unfolding after_write
write_leads at bus address value within = write_by at bus address value (is_port bus.map address) (address == bus.map.port)
    (address == bus.map.port + 3) (is_rom bus.map address) within

-- ---- a state that an operation leads to

pub record Moves (at : List ℕ) (s t : State) : Type 0 where
  pub bus : Leads 1 1 at s.bus t.bus
  pub irq : t.irq ≡ s.irq
  pub nmi : t.nmi ≡ s.nmi
  pub from : s.cycles ≤ t.cycles
  pub to : t.cycles ≤ s.cycles + 2

idle : (at : List ℕ) (s : State) (regs : Regs) → Moves at s (record s { regs = regs })
idle at s regs = record { bus = stays 1 1 at s.bus; irq = refl; nmi = refl; from = omega arith; to = omega arith }

operand_by : (at : List ℕ) (immediate : Bool) (bus : Bus) (address : ℕ) → Leads 1 0 at bus (cond immediate bus (after_read bus address))
operand_by at true bus address = stays 1 0 at bus
operand_by at false bus address = read_leads at bus address

more_out : (at : List ℕ) (a b : Bus) → Leads 1 0 at a b → Leads 1 1 at a b
more_out at a b h = then 1 0 0 1 1 1 at a b b (omega arith) (omega arith) h (stays 0 1 at b)

more_in : (at : List ℕ) (a b : Bus) → Leads 0 1 at a b → Leads 1 1 at a b
more_in at a b h = then 0 1 1 0 1 1 at a b b (omega arith) (omega arith) h (stays 1 0 at b)

load_moves : (at : List ℕ) (op : ReadOp) (mode : Mode) (place : EffectiveAddress) (s : State) → Moves at s (load op mode place s)
unfolding load after_operand
load_moves at op mode place s = record {
  bus = more_out at s.bus _ (operand_by at (is_immediate mode) s.bus place.address);
  irq = refl;
  nmi = refl;
  from = omega arith;
  to = omega arith;
}

one_place : (address k : ℕ) → Outside k (address ∷ []) → k ≢ address
one_place address k out = out.0

store_moves : (op : StoreOp) (place : EffectiveAddress) (s : State) → Moves (place.address ∷ []) s (store op place s)
unfolding store
store_moves op place s = record {
  bus = more_in (place.address ∷ []) s.bus _ (write_leads (place.address ∷ []) s.bus place.address (store_value op s.regs) (one_place place.address));
  irq = refl;
  nmi = refl;
  from = omega arith;
  to = omega arith;
}

abbrev modified : Bool → ℕ → Access
modified accumulator address = cond accumulator no_access (record { read = Some address; store = Some address; pushes = 0 })

modify_moves : (accumulator : Bool) (op : ModifyOp) (place : EffectiveAddress) (s : State)
    → Moves (stores_by (modified accumulator place.address) s.regs.s) s (cond accumulator (modify_a op s) (modify_memory op place s))
unfolding modify_a modify_memory stores_by
modify_moves true op place s = record { bus = stays 1 1 [] s.bus; irq = refl; nmi = refl; from = omega arith; to = omega arith }
modify_moves false op place s =
    let value = (modify_sum op (byte_read s.bus place.address) s.regs.flags.c).value in
    let at = place.address ∷ [] in
    record {
      bus = then 1 0 0 1 1 1 at s.bus (after_read s.bus place.address) _ (omega arith) (omega arith) (read_leads at s.bus place.address)
          (write_leads at (after_read s.bus place.address) place.address value (one_place place.address));
      irq = refl;
      nmi = refl;
      from = omega arith;
      to = omega arith;
    }

branch_by : (at : List ℕ) (taken : Bool) (place : EffectiveAddress) (s : State)
    → Moves at s (cond taken (record s { regs = record s.regs { pc = place.address }; cycles = s.cycles + 1 + bit place.crossed }) s)
branch_by at true place s = record { bus = stays 1 1 at s.bus; irq = refl; nmi = refl; from = omega arith; to = omega (arith, bit_small place.crossed) }
branch_by at false place s = record { bus = stays 1 1 at s.bus; irq = refl; nmi = refl; from = omega arith; to = omega arith }

branch_moves : (at : List ℕ) (op : BranchOp) (place : EffectiveAddress) (s : State) → Moves at s (branch op place s)
unfolding branch
branch_moves at op place s = branch_by at (branches op s.regs.flags) place s

-- ---- the stack

first_push : (s k : ℕ) → s < 256 → k ≢ below s 0 → k ≢ 256 + s
first_push s k small apart e = apart (omega (arith, e, small))

second_push : (s k : ℕ) → s < 256 → k ≢ below s 1 → k ≢ 256 + (s + 255) % 256
second_push s k small apart e = apart (omega (arith, e, small))

third_push : (s k : ℕ) → s < 256 → k ≢ below s 2 → k ≢ 256 + ((s + 255) % 256 + 255) % 256
third_push s k small apart e = apart (omega (arith, e, small))

push_leads : (at : List ℕ) (s : State) (value : ℕ) → ((k : ℕ) → Outside k at → k ≢ 256 + s.regs.s) → Leads 0 0 at s.bus (after_push s value).bus
unfolding after_push
push_leads at s value within = byte_leads 0 0 at s.bus (256 + s.regs.s) value within

s_pushed : (s : State) (value : ℕ) → (after_push s value).regs.s ≡ (s.regs.s + 255) % 256
unfolding after_push
s_pushed s value = refl

push_moves : (s : State) (value : ℕ) → s.regs.s < 256 → Moves (below s.regs.s 0 ∷ []) s (after_push s value)
unfolding after_push
push_moves s value small = record {
  bus = byte_leads 1 1 (below s.regs.s 0 ∷ []) s.bus (256 + s.regs.s) value (λ k out. first_push s.regs.s k small out.0);
  irq = refl;
  nmi = refl;
  from = omega arith;
  to = omega arith;
}

call_moves : (place : EffectiveAddress) (s : State) → s.regs.s < 256 → Moves (below s.regs.s 0 ∷ below s.regs.s 1 ∷ []) s (call place s)
unfolding call after_push
call_moves place s small =
    let last = (s.regs.pc + 65535) % 65536 in
    let at = below s.regs.s 0 ∷ below s.regs.s 1 ∷ [] in
    let one = bus_with_byte s.bus (256 + s.regs.s) (last / 256) in
    record {
      bus = then 1 1 0 0 1 1 at s.bus one _ (omega arith) (omega arith)
          (byte_leads 1 1 at s.bus (256 + s.regs.s) (last / 256) (λ k out. first_push s.regs.s k small out.0))
          (byte_leads 0 0 at one (256 + (s.regs.s + 255) % 256) (last % 256) (λ k out. second_push s.regs.s k small out.1.0));
      irq = refl;
      nmi = refl;
      from = omega arith;
      to = omega arith;
    }

sequence_moves : (s : State) (return : ℕ) (b : Bool) (vector : ℕ) → s.regs.s < 256 → Moves (entry_stores s.regs.s) s (interrupt_sequence s return b vector)
unfolding interrupt_sequence after_push
sequence_moves s return b vector small =
    let at = entry_stores s.regs.s in
    let one = bus_with_byte s.bus (256 + s.regs.s) (return / 256) in
    let two = bus_with_byte one (256 + (s.regs.s + 255) % 256) (return % 256) in
    record {
      bus = then 1 1 0 0 1 1 at s.bus two _ (omega arith) (omega arith)
          (then 1 1 0 0 1 1 at s.bus one two (omega arith) (omega arith)
          (byte_leads 1 1 at s.bus (256 + s.regs.s) (return / 256) (λ k out. first_push s.regs.s k small out.0))
          (byte_leads 0 0 at one (256 + (s.regs.s + 255) % 256) (return % 256) (λ k out. second_push s.regs.s k small out.1.0)))
          (byte_leads 0 0 at two (256 + ((s.regs.s + 255) % 256 + 255) % 256) (status b s.regs.flags) (λ k out. third_push s.regs.s k small out.1.1.0));
      irq = refl;
      nmi = refl;
      from = omega arith;
      to = omega arith;
    }

break_moves : (s : State) → s.regs.s < 256 → Moves (entry_stores s.regs.s) s (break_entry s)
unfolding break_entry
break_moves s small = sequence_moves s ((s.regs.pc + 1) % 65536) true 0xFFFE small

-- ---- operations

performed_moves : (op : Operation) (mode : Mode) (place : EffectiveAddress) (s : State) → s.regs.s < 256
    → Moves (stores_by (access_of op mode place.address) s.regs.s) s (after_operation op mode place s)
unfolding after_operation access_of stores_by pull_a pull_x pull_y pull_status after_pull return_from_call return_from_interrupt
performed_moves (operation.Read op) mode place s small = load_moves _ op mode place s
performed_moves (operation.Store op) mode place s small = store_moves op place s
performed_moves (operation.Modify op) mode place s small = modify_moves (is_accumulator mode) op place s
performed_moves (operation.Register op) mode place s small = idle [] s _
performed_moves (operation.Branch op) mode place s small = branch_moves [] op place s
performed_moves operation.PushA mode place s small = push_moves s s.regs.a small
performed_moves operation.PushX mode place s small = push_moves s s.regs.x small
performed_moves operation.PushY mode place s small = push_moves s s.regs.y small
performed_moves operation.PushStatus mode place s small = push_moves s (status true s.regs.flags) small
performed_moves operation.PullA mode place s small = idle [] s _
performed_moves operation.PullX mode place s small = idle [] s _
performed_moves operation.PullY mode place s small = idle [] s _
performed_moves operation.PullStatus mode place s small = idle [] s _
performed_moves operation.Jump mode place s small = idle [] s _
performed_moves operation.Call mode place s small = call_moves place s small
performed_moves operation.Return mode place s small = idle [] s _
performed_moves operation.ReturnInterrupt mode place s small = idle [] s _
performed_moves operation.Break mode place s small = break_moves s small

-- ---- steps

-- a step that stored at these addresses
pub record Steps (at : List ℕ) (s t : State) : Type 0 where
  pub bus : Leads 1 1 at s.bus t.bus
  pub irq : t.irq ≡ s.irq
  pub nmi : t.nmi ≡ false
  pub from : s.cycles ≤ t.cycles
  pub to : t.cycles ≤ s.cycles + 15

executed_by : (row : Row) (place : EffectiveAddress) (s t : State) (refused : Bool) → s.regs.s < 256 → s.nmi ≡ false → row.cycles ≤ 7
    → cond refused (Err ConsoleFull) (Ok (after_operation (operation_of row.mnemonic) row.mode place (past_instruction row place s))) ≡ Ok t
    → Steps (stores_by (access_of (operation_of row.mnemonic) row.mode place.address) s.regs.s) s t
unfolding past_instruction
executed_by row place s t true small none few made = cc
executed_by row place s t false small none few made =
    let same : after_operation (operation_of row.mnemonic) row.mode place (past_instruction row place s) ≡ t = cc in
    let at = stores_by (access_of (operation_of row.mnemonic) row.mode place.address) s.regs.s in
    let h = performed_moves (operation_of row.mnemonic) row.mode place (past_instruction row place s) small in
    let whole : Steps at s (after_operation (operation_of row.mnemonic) row.mode place (past_instruction row place s)) = record {
      bus = h.bus;
      irq = h.irq;
      nmi = h.nmi ∙ none;
      from = omega (arith, h.from);
      to = omega (arith, h.to, few, bit_small (row.penalty && place.crossed));
    } in
    subst (λ (x : State). Steps at s x) same whole

attempted_by : (row : Option Row) (opcode : ℕ) (s t : State) → s.regs.s < 256 → s.nmi ≡ false → opcode < 256 → row_at s.bus.map.profile opcode ≡ row
    → attempt row s ≡ Ok t
    → Steps (stores_by (access_by row s) s.regs.s) s t
unfolding attempt execution
attempted_by None opcode s t small none byte is made = cc
attempted_by (Some row) opcode s t small none byte is made =
    executed_by row (effective_address s.bus s.regs row.mode) s t _ small none (cycles_small s.bus.map.profile opcode row byte is) made

-- what of a state is in range that an instruction depends on
pub record InRange (state : State) : Type 0 where
  pub memory : AreBytes state.bus.memory
  pub s : state.regs.s < 256
  pub cycles : state.cycles < 2 ^ 64

pub attempted_steps : (s t : State) → InRange s → s.nmi ≡ false → attempt (row_here s) s ≡ Ok t → Steps (stores_here s) s t
unfolding stores_here access_here
attempted_steps s t h none made =
    attempted_by (row_here s) (slice_index s.bus.memory s.regs.pc) s t h.s none (byte_small s.bus.memory s.regs.pc h.memory) refl made

pub entry_steps : (s : State) (vector : ℕ) → s.regs.s < 256 → s.nmi ≡ false → Steps (entry_stores s.regs.s) s (interrupt_entry s vector)
unfolding interrupt_entry
entry_steps s vector small none =
    let h = sequence_moves s s.regs.pc false vector small in
    record { bus = h.bus; irq = h.irq; nmi = h.nmi ∙ none; from = omega (arith, h.from); to = omega (arith, h.to) }
