-- What a step takes of the input, and what it adds to the output. A step takes a byte only if the
-- instruction at PC reads base+1; the stack pointer tells such a step from an interrupt entry.
use Rattle.std.proofs.Common.{◌≡◌, ◌≢◌, ℕ, ◌+◌, ◌/◌, ◌%◌, ◌<◌, Bool, true, false, cond, List, [], ◌∷◌, ◌++◌, Option, Some, None, Ok, Err, refl, sym, ap, ◌∙◌, arith, append-nil, append_assoc, inl, inr}
use Rattle.std.specs.Prelude.{slice_index, not, ◌&&◌, ◌==◌, nat_lt}
use Rattle.std.proofs.lemmas.Bool.Decides.{eqb_tells}
use Rattle.model.specs.State.{Bus, State, is_port, is_rom, input_waits, after_read, after_write, bus_with_byte, byte_read}
use Rattle.model.specs.Operand.{effective_address, is_immediate, is_accumulator}
use Rattle.model.specs.Effect.{operand, after_operand, load, store, modify_a, modify_memory, branches, branch, after_push, after_pull, pull_a, pull_x, pull_y, pull_status, call, return_from_call, return_from_interrupt, interrupt_sequence, break_entry, after_operation, operation_of, regs_after_read, modify_sum, status, store_value}
use Rattle.model.specs.OpcodeTable.{row_at}
use Rattle.model.specs.Step.{past_instruction, execution, attempt, interrupt_entry, most_cycles, irq_asked, step}
use Rattle.model.specs.declared.registers.Regs.{Regs}
use Rattle.model.specs.declared.instruction.EffectiveAddress.{EffectiveAddress}
use Rattle.model.specs.declared.instruction.Row.{Row}
use Rattle.model.specs.declared.instruction.Mode.{Mode}
use Rattle.model.specs.declared.operation.Operation.{Operation}
use Rattle.model.specs.declared.operation.Operation.TheVariants as operation
use Rattle.model.specs.declared.operation.ReadOp.{ReadOp}
use Rattle.model.specs.declared.operation.ReadOp.TheVariants as read_op
use Rattle.model.specs.declared.operation.StoreOp.{StoreOp}
use Rattle.model.specs.declared.operation.ModifyOp.{ModifyOp}
use Rattle.model.specs.declared.operation.BranchOp.{BranchOp}
use Rattle.model.specs.declared.event.EventFault.TheVariants.{CyclesFull, ConsoleFull}
use Rattle.accesses.specs.Access.{access_of, access_by, access_here, no_access}
use Rattle.console.specs.Taking.{take_count, counted}
use Rattle.cpu_step.specs.declared.access.Access.{Access}

-- a bus that has given n bytes of input to the program, and may have more output
pub record Leads (n : ℕ) (before after : Bus) : Type 0 where
  pub given : after.given ≡ before.given
  pub taken : after.taken ≡ before.taken + n
  pub out : (more : List ℕ) × (after.out ≡ before.out ++ more)

stays : (bus : Bus) → Leads 0 bus bus
stays bus = record { given = refl; taken = omega arith; out = ([], sym (append-nil bus.out)) }

then : (n m : ℕ) (a b c : Bus) → Leads n a b → Leads m b c → Leads (n + m) a c
then n m a b c h k = record {
  given = k.given ∙ h.given;
  taken = omega (arith, k.taken, h.taken);
  out = (h.out.0 ++ k.out.0, k.out.1 ∙ ap (λ l. l ++ k.out.0) h.out.1 ∙ append_assoc a.out h.out.0 k.out.0);
}

then_none : (n : ℕ) (a b c : Bus) → Leads n a b → Leads 0 b c → Leads n a c
then_none n a b c h k = record {
  given = k.given ∙ h.given;
  taken = omega (arith, k.taken, h.taken);
  out = (h.out.0 ++ k.out.0, k.out.1 ∙ ap (λ l. l ++ k.out.0) h.out.1 ∙ append_assoc a.out h.out.0 k.out.0);
}

none_either : (b : Bool) (before after : Bus) → Leads 0 before after → Leads (cond b 0 0) before after
none_either true before after h = h
none_either false before after h = h

-- ---- accesses

read_by : (bus : Bus) (takes : Bool) → Leads (cond takes 1 0) bus (cond takes (record bus { taken = bus.taken + 1 }) bus)
read_by bus true = record { given = refl; taken = refl; out = ([], sym (append-nil bus.out)) }
read_by bus false = stays bus

read_leads : (bus : Bus) (address : ℕ) → Leads (take_count (Some address) bus) bus (after_read bus address)
unfolding after_read
read_leads bus address = read_by bus ((address == bus.map.port + 1) && input_waits bus)

write_by : (bus : Bus) (address value : ℕ) (port first third rom : Bool)
    → Leads 0 bus (cond port (cond first (record bus { out = bus.out ++ value ∷ [] }) (cond third (record bus { control = value % 2 == 1 }) bus))
    (cond rom bus (bus_with_byte bus address value)))
write_by bus address value true true third rom = record { given = refl; taken = omega arith; out = (value ∷ [], refl) }
write_by bus address value true false true rom = record { given = refl; taken = omega arith; out = ([], sym (append-nil bus.out)) }
write_by bus address value true false false rom = stays bus
write_by bus address value false first third true = stays bus
write_by bus address value false first third false = record { given = refl; taken = omega arith; out = ([], sym (append-nil bus.out)) }

write_leads : (bus : Bus) (address value : ℕ) → Leads 0 bus (after_write bus address value)
unfolding after_write
write_leads bus address value = write_by bus address value (is_port bus.map address) (address == bus.map.port) (address == bus.map.port + 3)
    (is_rom bus.map address)

-- ---- the stack

push_leads : (s : State) (value : ℕ) → Leads 0 s.bus (after_push s value).bus
unfolding after_push
push_leads s value = record { given = refl; taken = omega arith; out = ([], sym (append-nil s.bus.out)) }

pushes_lead : (s : State) (v w : ℕ) → Leads 0 s.bus (after_push (after_push s v) w).bus
pushes_lead s v w = then_none 0 s.bus (after_push s v).bus (after_push (after_push s v) w).bus (push_leads s v) (push_leads (after_push s v) w)

s-pushed : (s : State) (value : ℕ) → (after_push s value).regs.s ≡ (s.regs.s + 255) % 256
unfolding after_push
s-pushed s value = refl

sequence_leads : (s : State) (return : ℕ) (b : Bool) (vector : ℕ) → Leads 0 s.bus (interrupt_sequence s return b vector).bus
unfolding interrupt_sequence
sequence_leads s return b vector =
    let two = after_push (after_push s (return / 256)) (return % 256) in
    then_none 0 s.bus two.bus (after_push two (status b s.regs.flags)).bus (pushes_lead s (return / 256) (return % 256))
    (push_leads two (status b s.regs.flags))

s-sequence : (s : State) (return : ℕ) (b : Bool) (vector : ℕ)
    → (interrupt_sequence s return b vector).regs.s ≡ (((s.regs.s + 255) % 256 + 255) % 256 + 255) % 256
unfolding interrupt_sequence after_push
s-sequence s return b vector = refl

store_leads : (op : StoreOp) (place : EffectiveAddress) (s : State) → Leads 0 s.bus (store op place s).bus
unfolding store
store_leads op place s = write_leads s.bus place.address (store_value op s.regs)

-- ---- operations

s-read : (op : ReadOp) (m : ℕ) (regs : Regs) → (regs_after_read op m regs).s ≡ regs.s
unfolding regs_after_read
s-read read_op.Ora m regs = refl
s-read read_op.And m regs = refl
s-read read_op.Eor m regs = refl
s-read read_op.Adc m regs = refl
s-read read_op.Lda m regs = refl
s-read read_op.Cmp m regs = refl
s-read read_op.Sbc m regs = refl
s-read read_op.Ldx m regs = refl
s-read read_op.Ldy m regs = refl
s-read read_op.Cpx m regs = refl
s-read read_op.Cpy m regs = refl
s-read read_op.Bit m regs = refl

same_s : (a : ℕ) → (a == a) ≡ true
same_s a = elim (eqb_tells a a) [ inl h ↦ h.0 | inr h ↦ absurd (h.1 refl) ]

counts_all : (a b n : ℕ) (before after : Bus) → b ≡ a → Leads n before after → Leads (counted a b n) before after
counts_all a b n before after e h = rw (e, same_s a) h

abbrev taken_by : Operation → Mode → EffectiveAddress → State → ℕ
taken_by op mode place s = take_count (access_of op mode place.address).read s.bus

abbrev loaded : Bool → ℕ → Access
loaded immediate address = cond immediate no_access (record { read = Some address; store = None; pushes = 0 })

abbrev modified : Bool → ℕ → Access
modified accumulator address = cond accumulator no_access (record { read = Some address; store = Some address; pushes = 0 })

load_by : (immediate : Bool) (bus : Bus) (address : ℕ)
    → Leads (take_count (loaded immediate address).read bus) bus (cond immediate bus (after_read bus address))
load_by true bus address = stays bus
load_by false bus address = read_leads bus address

load_leads : (op : ReadOp) (mode : Mode) (place : EffectiveAddress) (s : State)
    → Leads (counted s.regs.s (load op mode place s).regs.s (take_count (loaded (is_immediate mode) place.address).read s.bus)) s.bus (load op mode place s).bus
unfolding load after_operand
load_leads op mode place s =
    counts_all s.regs.s _ (take_count (loaded (is_immediate mode) place.address).read s.bus) s.bus _ (s-read op (operand mode s.bus place.address) s.regs)
    (load_by (is_immediate mode) s.bus place.address)

modify_leads : (accumulator : Bool) (op : ModifyOp) (place : EffectiveAddress) (s : State)
    → Leads (counted s.regs.s (cond accumulator (modify_a op s) (modify_memory op place s)).regs.s
    (take_count (modified accumulator place.address).read s.bus)) s.bus
    (cond accumulator (modify_a op s) (modify_memory op place s)).bus
unfolding modify_a modify_memory
modify_leads true op place s = counts_all s.regs.s s.regs.s 0 s.bus s.bus refl (stays s.bus)
modify_leads false op place s =
    let value = (modify_sum op (byte_read s.bus place.address) s.regs.flags.c).value in
    counts_all s.regs.s s.regs.s (take_count (Some place.address) s.bus) s.bus _ refl
    (then_none (take_count (Some place.address) s.bus) s.bus (after_read s.bus place.address) (after_write (after_read s.bus place.address) place.address value)
    (read_leads s.bus place.address) (write_leads (after_read s.bus place.address) place.address value))

counts_none : (a b : ℕ) (before after : Bus) → Leads 0 before after → Leads (counted a b 0) before after
counts_none a b before after h = none_either (a == b) before after h

branch_by : (taken : Bool) (place : EffectiveAddress) (s : State) (cycles : ℕ)
    → Leads 0 s.bus (cond taken (record s { regs = record s.regs { pc = place.address }; cycles = cycles }) s).bus
branch_by true place s cycles = stays s.bus
branch_by false place s cycles = stays s.bus

branch_leads : (op : BranchOp) (place : EffectiveAddress) (s : State) → Leads 0 s.bus (branch op place s).bus
unfolding branch
branch_leads op place s = branch_by (branches op s.regs.flags) place s _

bus-pulled : (s : State) → (after_pull s).bus ≡ s.bus
unfolding after_pull
bus-pulled s = refl

pull_a_leads : (s : State) → Leads 0 s.bus (pull_a s).bus
unfolding pull_a after_pull
pull_a_leads s = stays s.bus

pull_x_leads : (s : State) → Leads 0 s.bus (pull_x s).bus
unfolding pull_x after_pull
pull_x_leads s = stays s.bus

pull_y_leads : (s : State) → Leads 0 s.bus (pull_y s).bus
unfolding pull_y after_pull
pull_y_leads s = stays s.bus

pull_status_leads : (s : State) → Leads 0 s.bus (pull_status s).bus
unfolding pull_status after_pull
pull_status_leads s = stays s.bus

call_leads : (place : EffectiveAddress) (s : State) → Leads 0 s.bus (call place s).bus
unfolding call
call_leads place s =
    let last = (s.regs.pc + 65535) % 65536 in pushes_lead s (last / 256) (last % 256)

return_leads : (s : State) → Leads 0 s.bus (return_from_call s).bus
unfolding return_from_call after_pull
return_leads s = stays s.bus

return_from_interrupt_leads : (s : State) → Leads 0 s.bus (return_from_interrupt s).bus
unfolding return_from_interrupt pull_status after_pull
return_from_interrupt_leads s = stays s.bus

break_leads : (s : State) → Leads 0 s.bus (break_entry s).bus
unfolding break_entry
break_leads s = sequence_leads s ((s.regs.pc + 1) % 65536) true 0xFFFE

performed_leads : (op : Operation) (mode : Mode) (place : EffectiveAddress) (s : State)
    → Leads (counted s.regs.s (after_operation op mode place s).regs.s (taken_by op mode place s)) s.bus (after_operation op mode place s).bus
unfolding after_operation access_of
performed_leads (operation.Read op) mode place s = load_leads op mode place s
performed_leads (operation.Store op) mode place s = counts_none s.regs.s (store op place s).regs.s s.bus (store op place s).bus (store_leads op place s)
performed_leads (operation.Modify op) mode place s = modify_leads (is_accumulator mode) op place s
performed_leads (operation.Register op) mode place s = counts_none s.regs.s _ s.bus s.bus (stays s.bus)
performed_leads (operation.Branch op) mode place s = counts_none s.regs.s _ s.bus _ (branch_leads op place s)
performed_leads operation.PushA mode place s = counts_none s.regs.s _ s.bus _ (push_leads s s.regs.a)
performed_leads operation.PushX mode place s = counts_none s.regs.s _ s.bus _ (push_leads s s.regs.x)
performed_leads operation.PushY mode place s = counts_none s.regs.s _ s.bus _ (push_leads s s.regs.y)
performed_leads operation.PushStatus mode place s = counts_none s.regs.s _ s.bus _ (push_leads s (status true s.regs.flags))
performed_leads operation.PullA mode place s = counts_none s.regs.s _ s.bus _ (pull_a_leads s)
performed_leads operation.PullX mode place s = counts_none s.regs.s _ s.bus _ (pull_x_leads s)
performed_leads operation.PullY mode place s = counts_none s.regs.s _ s.bus _ (pull_y_leads s)
performed_leads operation.PullStatus mode place s = counts_none s.regs.s _ s.bus _ (pull_status_leads s)
performed_leads operation.Jump mode place s = counts_none s.regs.s _ s.bus s.bus (stays s.bus)
performed_leads operation.Call mode place s = counts_none s.regs.s _ s.bus _ (call_leads place s)
performed_leads operation.Return mode place s = counts_none s.regs.s _ s.bus _ (return_leads s)
performed_leads operation.ReturnInterrupt mode place s = counts_none s.regs.s _ s.bus _ (return_from_interrupt_leads s)
performed_leads operation.Break mode place s = counts_none s.regs.s _ s.bus _ (break_leads s)

-- ---- instructions

executed_by : (row : Row) (place : EffectiveAddress) (s after : State) (refused : Bool)
    → cond refused (Err ConsoleFull)
    (Ok (after_operation (operation_of row.mnemonic) row.mode place (past_instruction row place s)))
    ≡ Ok after
    → Leads (counted s.regs.s after.regs.s (taken_by (operation_of row.mnemonic) row.mode place s)) s.bus after.bus
unfolding past_instruction
executed_by row place s after true e = cc
executed_by row place s after false e =
    let same : after_operation (operation_of row.mnemonic) row.mode place (past_instruction row place s) ≡ after = cc in
    rw same at (performed_leads (operation_of row.mnemonic) row.mode place (past_instruction row place s))

executed_leads : (row : Row) (s after : State) → execution row s ≡ Ok after
    → Leads (counted s.regs.s after.regs.s (take_count (access_by (Some row) s).read s.bus)) s.bus after.bus
unfolding execution
executed_leads row s after e =
    executed_by row (effective_address s.bus s.regs row.mode) s after _ e

attempted_leads : (row : Option Row) (s after : State) → attempt row s ≡ Ok after
    → Leads (counted s.regs.s after.regs.s (take_count (access_by row s).read s.bus)) s.bus after.bus
unfolding attempt
attempted_leads None s after e = cc
attempted_leads (Some row) s after e = executed_leads row s after e

-- ---- steps

apart : (s : ℕ) → s < 256 → s ≢ (((s + 255) % 256 + 255) % 256 + 255) % 256
apart s h e = omega arith

counts_entry : (a b n : ℕ) (before after : Bus) → a ≢ b → Leads 0 before after → Leads (counted a b n) before after
counts_entry a b n before after h k = elim (eqb_tells a b) [
  | inl e ↦ absurd (h e.1)
  | inr e ↦ rw e.0 k
]

entry_leads : (s : State) (vector n : ℕ) → s.regs.s < 256
    → Leads (counted s.regs.s (interrupt_entry s vector).regs.s n) s.bus (interrupt_entry s vector).bus
unfolding interrupt_entry
entry_leads s vector n small =
    let far : s.regs.s ≢ (interrupt_sequence s s.regs.pc false vector).regs.s = λ e. apart s.regs.s small (e ∙ s-sequence s s.regs.pc false vector) in
    counts_entry s.regs.s (interrupt_sequence s s.regs.pc false vector).regs.s n s.bus (interrupt_sequence s s.regs.pc false vector).bus far
    (sequence_leads s s.regs.pc false vector)

abbrev forgotten : State → State
forgotten s = record s { nmi = false }

step_by : (s after : State) (full nmi irq : Bool) → s.regs.s < 256
    → cond full (Err CyclesFull)
    (cond nmi (Ok (interrupt_entry (forgotten s) 0xFFFA)) (cond irq (Ok (interrupt_entry s 0xFFFE))
    (attempt (row_at s.bus.map.profile (slice_index s.bus.memory s.regs.pc)) s)))
    ≡ Ok after
    → Leads (counted s.regs.s after.regs.s (take_count (access_by (row_at s.bus.map.profile (slice_index s.bus.memory s.regs.pc)) s).read s.bus))
    s.bus after.bus
step_by s after true nmi irq small e = cc
step_by s after false true irq small e =
    let same : interrupt_entry (forgotten s) 0xFFFA ≡ after = cc in
    rw same at (entry_leads (forgotten s) 0xFFFA (take_count (access_by (row_at s.bus.map.profile (slice_index s.bus.memory s.regs.pc)) s).read s.bus) small)
step_by s after false false true small e =
    let same : interrupt_entry s 0xFFFE ≡ after = cc in
    rw same at (entry_leads s 0xFFFE (take_count (access_by (row_at s.bus.map.profile (slice_index s.bus.memory s.regs.pc)) s).read s.bus) small)
step_by s after false false false small e =
    attempted_leads (row_at s.bus.map.profile (slice_index s.bus.memory s.regs.pc)) s after e

pub step_leads : (s after : State) → s.regs.s < 256 → step s ≡ Ok after
    → Leads (counted s.regs.s after.regs.s (take_count (access_here s).read s.bus)) s.bus after.bus
unfolding step access_here
step_leads s after small e = step_by s after (nat_lt most_cycles s.cycles) s.nmi (irq_asked s && not s.regs.flags.i) small e

-- ---- the output alone

entry_grows : (s : State) (vector : ℕ) → Leads 0 s.bus (interrupt_entry s vector).bus
unfolding interrupt_entry
entry_grows s vector = sequence_leads s s.regs.pc false vector

grows_by : (s after : State) (full nmi irq : Bool)
    → cond full (Err CyclesFull)
    (cond nmi (Ok (interrupt_entry (forgotten s) 0xFFFA)) (cond irq (Ok (interrupt_entry s 0xFFFE))
    (attempt (row_at s.bus.map.profile (slice_index s.bus.memory s.regs.pc)) s)))
    ≡ Ok after
    → (more : List ℕ) × (after.bus.out ≡ s.bus.out ++ more)
grows_by s after true nmi irq e = cc
grows_by s after false true irq e =
    let same : interrupt_entry (forgotten s) 0xFFFA ≡ after = cc in (rw same at (entry_grows (forgotten s) 0xFFFA)).out
grows_by s after false false true e =
    let same : interrupt_entry s 0xFFFE ≡ after = cc in (rw same at (entry_grows s 0xFFFE)).out
grows_by s after false false false e =
    (attempted_leads (row_at s.bus.map.profile (slice_index s.bus.memory s.regs.pc)) s after e).out

-- a step puts something out, or nothing, and takes nothing back
pub step_grows : (s after : State) → step s ≡ Ok after → (more : List ℕ) × (after.bus.out ≡ s.bus.out ++ more)
unfolding step
step_grows s after e = grows_by s after (nat_lt most_cycles s.cycles) s.nmi (irq_asked s && not s.regs.flags.i) e
