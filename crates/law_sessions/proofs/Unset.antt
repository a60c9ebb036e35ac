-- Single steps of states whose control byte is 0: where no odd byte is stored at base+3, they are
-- those of the machine whose port could only be polled, and leave the control byte 0.
use Rattle.std.proofs.Common.{◌≡◌, ℕ, ◌+◌, ◌%◌, Bool, true, false, not, ◌&&◌, ◌||◌, cond, Option, Some, None, [], ◌∷◌, ◌++◌, Result, Ok, Err, refl, sym, ap, ◌∙◌, subst, arith, eqb}
use Rattle.std.proofs.lemmas.Bool.Decides.{nat_tests}
use Rattle.std.specs.Prelude.{nat_lt, slice_index}
use Rattle.std.specs.Option.{option_map_or}
use Rattle.model.specs.State.{Bus, State, input_waits, is_port, is_rom, bus_with_byte, byte_read, after_read, after_write, overflows}
use Rattle.model.specs.Operand.{effective_address, is_immediate, is_accumulator}
use Rattle.model.specs.Effect.{operand, after_operand, load, store, modify_a, modify_memory, branch, after_push, after_pull, pull_a, pull_x, pull_y, pull_status, call, return_from_call, return_from_interrupt, interrupt_sequence, break_entry, after_operation, operation_of, modify_sum, store_value, with_result, branches}
use Rattle.model.specs.Arithmetic.{bit}
use Rattle.model.specs.OpcodeTable.{row_at}
use Rattle.model.specs.Step.{past_instruction, stores, interrupt_entry, execution, attempt, irq_asked, most_cycles, step}
use Rattle.model.specs.Polled.{polled_read, polled_write, polled_operand, polled_load, polled_store, polled_modify, polled_operation, polled_execution, polled_attempt, polled_step, byte_stored, stores_odd, instruction_at, sets_control}
use Rattle.model.specs.declared.instruction.EffectiveAddress.{EffectiveAddress}
use Rattle.model.specs.declared.instruction.Row.{Row}
use Rattle.model.specs.declared.instruction.Mode.{Mode}
use Rattle.model.specs.declared.operation.Operation.{Operation}
use Rattle.model.specs.declared.operation.Operation.TheVariants as operation
use Rattle.model.specs.declared.operation.ReadOp.{ReadOp}
use Rattle.model.specs.declared.operation.StoreOp.{StoreOp}
use Rattle.model.specs.declared.operation.StoreOp.TheVariants as store_op
use Rattle.model.specs.declared.operation.ModifyOp.{ModifyOp}
use Rattle.model.specs.declared.operation.BranchOp.{BranchOp}
use Rattle.model.specs.declared.event.EventFault.{EventFault}
use Rattle.model.specs.declared.event.EventFault.TheVariants.{CyclesFull, Undocumented, ConsoleFull}

-- the control byte is 0
abbrev pub Unset : State → Type 0
Unset state = state.bus.control ≡ false

-- ---- accesses

both : {A : Type 0} (b : Bool) (x : A) → cond b x x ≡ x
both true x = refl
both false x = refl

read_same : (bus : Bus) (address : ℕ) → bus.control ≡ false
    → byte_read bus address ≡ polled_read bus address
unfolding byte_read polled_read
read_same bus address h =
    let at = eqb address (bus.map.port + 3) in
    let last : ◌≡◌ {A = ℕ} (cond at (cond bus.control 1 0) 0) 0 = ap (λ c. cond at (cond c 1 0) 0) h ∙ both at 0 in
    rw last refl

-- a control byte that is 0 stays so where the byte that is stored there is even
cleared : (bus : Bus) (at odd : Bool) → bus.control ≡ false → (at && odd) ≡ false → cond at (record bus { control = odd }) bus ≡ bus
cleared bus true true h e = cc
cleared bus true false h e = λ i. record bus { control = sym h i }
cleared bus false odd h e = refl

write_same : (bus : Bus) (address value : ℕ) → bus.control ≡ false
    → (eqb address (bus.map.port + 3) && eqb (value % 2) 1) ≡ false
    → after_write bus address value ≡ polled_write bus address value
unfolding after_write polled_write
write_same bus address value h e = rw (cleared bus (eqb address (bus.map.port + 3)) (eqb (value % 2) 1) h e) refl

write_keeps : (bus : Bus) (address value : ℕ)
    → (polled_write bus address value).control ≡ bus.control
unfolding polled_write
write_keeps bus address value = kept (is_port bus.map address) (eqb address bus.map.port) (is_rom bus.map address)
  where
    kept : (port out rom : Bool) → (cond port (cond out (record bus { out = bus.out ++ value ∷ [] }) bus)
        (cond rom bus (bus_with_byte bus address value))).control ≡ bus.control
    kept true true rom = refl
    kept true false rom = refl
    kept false out true = refl
    kept false out false = refl

-- a read takes an input byte, or leaves the bus as it was
taken_if : (bus : Bus) (b : Bool) → ((cond b (record bus { taken = bus.taken + 1 }) bus).control ≡ bus.control)
    × ((cond b (record bus { taken = bus.taken + 1 }) bus).map ≡ bus.map)
taken_if bus true = (refl, refl)
taken_if bus false = (refl, refl)

read_keeps : (bus : Bus) (address : ℕ) → ((after_read bus address).control ≡ bus.control)
    × ((after_read bus address).map ≡ bus.map)
unfolding after_read
read_keeps bus address = taken_if bus (eqb address (bus.map.port + 1) && input_waits bus)

-- ---- operations

-- two states that are the same, with a control byte that is 0
pub record Polled (new old : State) : Type 0 where
  pub same : new ≡ old
  pub unset : Unset new

-- an operation that stores no odd byte at base+3
abbrev Spares : Operation → Mode → EffectiveAddress → State → Type 0
Spares op mode place state = (eqb place.address (state.bus.map.port + 3)
    && option_map_or (λ byte. eqb (byte % 2) 1) (byte_stored op mode place state) false) ≡ false

load_same : (op : ReadOp) (mode : Mode) (place : EffectiveAddress) (state : State) → Unset state
    → Polled (load op mode place state) (polled_load op mode place state)
unfolding load polled_load operand polled_operand after_operand
load_same op mode place state h = record {
  same = rw (read_same state.bus place.address h) refl;
  unset = kept (is_immediate mode);
}
  where
    kept : (b : Bool) → (cond b state.bus (after_read state.bus place.address)).control ≡ false
    kept true = h
    kept false = (read_keeps state.bus place.address).0 ∙ h

store_same : (op : StoreOp) (mode : Mode) (place : EffectiveAddress) (state : State) → Unset state
    → Spares (operation.Store op) mode place state → Polled (store op place state)
    (polled_store op place state)
unfolding store polled_store byte_stored
store_same op mode place state h e =
    let w = write_same state.bus place.address (store_value op state.regs) h e in record {
      same = rw w refl;
      unset = ap (λ (b : Bus). b.control) w ∙ write_keeps state.bus place.address (store_value op state.regs) ∙ h;
    }

-- the byte that a modification stores
abbrev new_byte : ModifyOp → EffectiveAddress → State → ℕ
new_byte op place state = (modify_sum op (byte_read state.bus place.address) state.regs.flags.c).value

modify_same : (op : ModifyOp) (place : EffectiveAddress) (state : State) → Unset state
    → (eqb place.address (state.bus.map.port + 3) && eqb (new_byte op place state % 2) 1) ≡ false
    → Polled (modify_memory op place state) (polled_modify op place state)
unfolding modify_memory polled_modify
modify_same op place state h e =
    let read = after_read state.bus place.address in
    let unread : read.control ≡ false = (read_keeps state.bus place.address).0 ∙ h in
    let spared = subst (λ m. (eqb place.address (m.port + 3) && eqb (new_byte op place state % 2) 1) ≡ false) (sym (read_keeps state.bus place.address).1) e in
    let w = write_same read place.address (new_byte op place state) unread spared in record {
      same = ap (λ (b : Bus). record state { bus = b; regs = with_result state.regs (modify_sum op (byte_read state.bus place.address) state.regs.flags.c) }) w
          ∙ ap (λ m. record state {
            bus = polled_write read place.address (modify_sum op m state.regs.flags.c).value;
            regs =
                with_result state.regs (modify_sum op m state.regs.flags.c);
          }) (read_same state.bus place.address h);
      unset = ap (λ (b : Bus). b.control) w ∙ write_keeps read place.address (new_byte op place state) ∙ unread;
    }

branch_unset : (op : BranchOp) (place : EffectiveAddress) (state : State) → Unset state
    → Unset (branch op place state)
unfolding branch
branch_unset op place state h = taken (branches op state.regs.flags)
  where
    taken : (b : Bool) → Unset (cond b (record state { regs = record state.regs { pc = place.address }; cycles = state.cycles + 1 + bit place.crossed }) state)
    taken true = h
    taken false = h

performed_same : (op : Operation) (mode : Mode) (place : EffectiveAddress) (state : State)
    → Unset state → Spares op mode place state
    → Polled (after_operation op mode place state) (polled_operation op mode place state)
unfolding after_operation polled_operation byte_stored modify_a after_push after_pull pull_a pull_x pull_y pull_status call return_from_call
    return_from_interrupt interrupt_sequence break_entry
performed_same (operation.Read op) mode place state h e = load_same op mode place state h
performed_same (operation.Store op) mode place state h e = store_same op mode place state h e
performed_same (operation.Modify op) mode place state h e = by (is_accumulator mode) e
  where
    by : (b : Bool)
        → (eqb place.address (state.bus.map.port + 3) && option_map_or (λ byte. eqb (byte % 2) 1) (cond b None (Some (new_byte op place state))) false) ≡ false
        → Polled (cond b (modify_a op state) (modify_memory op place state)) (cond b (modify_a op state) (polled_modify op place state))
    by true e = record { same = refl; unset = h }
    by false e = modify_same op place state h e
performed_same (operation.Register op) mode place state h e = record { same = refl; unset = h }
performed_same (operation.Branch op) mode place state h e = record { same = refl; unset = branch_unset op place state h }
performed_same operation.PushA mode place state h e = record { same = refl; unset = h }
performed_same operation.PushX mode place state h e = record { same = refl; unset = h }
performed_same operation.PushY mode place state h e = record { same = refl; unset = h }
performed_same operation.PushStatus mode place state h e = record { same = refl; unset = h }
performed_same operation.PullA mode place state h e = record { same = refl; unset = h }
performed_same operation.PullX mode place state h e = record { same = refl; unset = h }
performed_same operation.PullY mode place state h e = record { same = refl; unset = h }
performed_same operation.PullStatus mode place state h e = record { same = refl; unset = h }
performed_same operation.Jump mode place state h e = record { same = refl; unset = h }
performed_same operation.Call mode place state h e = record { same = refl; unset = h }
performed_same operation.Return mode place state h e = record { same = refl; unset = h }
performed_same operation.ReturnInterrupt mode place state h e = record { same = refl; unset = h }
performed_same operation.Break mode place state h e = record { same = refl; unset = h }

-- ---- steps

-- two steps that end alike, where they are made with a control byte that is 0
pub record PolledStep (new old : Result State EventFault) : Type 0 where
  pub same : new ≡ old
  pub unset : (t : State) → new ≡ Ok t → Unset t

made : (new old : State) → Polled new old → PolledStep (Ok new) (Ok old)
made new old p = record { same = ap Ok p.same; unset = λ t h. let is : new ≡ t = cc in subst Unset is p.unset }

refused : (f : EventFault) → PolledStep (Err f) (Err f)
refused f = record { same = refl; unset = λ t h. cc }

value_advanced : (op : StoreOp) (row : Row) (place : EffectiveAddress) (state : State)
    → store_value op (past_instruction row place state).regs ≡ store_value op state.regs
unfolding past_instruction store_value
value_advanced store_op.Sta row place state = refl
value_advanced store_op.Stx row place state = refl
value_advanced store_op.Sty row place state = refl
value_advanced store_op.Stz row place state = refl

-- the bytes that are stored do not hang on PC
byte_advanced : (op : Operation) (row : Row) (place : EffectiveAddress) (state : State)
    → byte_stored op row.mode place (past_instruction row place state)
    ≡ byte_stored op row.mode place state
unfolding past_instruction byte_stored
byte_advanced (operation.Store op) row place state = ap Some (value_advanced op row place state)
byte_advanced op row place state = refl

executed_same : (row : Row) (state : State) → Unset state → stores_odd row state ≡ false
    → PolledStep (execution row state) (polled_execution row state)
unfolding execution polled_execution stores_odd past_instruction
executed_same row state h e =
    let place = effective_address state.bus state.regs row.mode in
    let op = operation_of row.mnemonic in
    let next = past_instruction row place state in
    let spared : Spares op row.mode place next = ap (λ b. eqb place.address (state.bus.map.port + 3)
    && option_map_or (λ byte. eqb (byte % 2) 1) b false) (byte_advanced op row place state) ∙ e in
    by (stores op row.mode && overflows state.bus place.address) (performed_same op row.mode place next h spared)
  where
    by : (b : Bool) {new old : State} → Polled new old → PolledStep (cond b (Err ConsoleFull) (Ok new)) (cond b (Err ConsoleFull) (Ok old))
    by true p = refused ConsoleFull
    by false {new} {old} p = made new old p

attempted_same : (row : Option Row) (state : State) → Unset state
    → option_map_or (λ r. stores_odd r state) row false ≡ false → PolledStep (attempt row state)
    (polled_attempt row state)
unfolding attempt polled_attempt
attempted_same None state h e = refused (Undocumented (slice_index state.bus.memory state.regs.pc) state.regs.pc)
attempted_same (Some row) state h e = executed_same row state h e

entered_unset : (state : State) (vector : ℕ) → Unset state → Unset (interrupt_entry state vector)
unfolding interrupt_entry interrupt_sequence after_push
entered_unset state vector h = h

-- where the control byte is 0 an IRQ is asked for by its line alone
asked_by_line : (line waits : Bool) {control : Bool} → control ≡ false
    → (line || (control && waits)) ≡ line
asked_by_line true waits h = refl
asked_by_line false waits h = ap (λ c. c && waits) h

-- the instruction at PC, unless the step is refused or is an interrupt entry
abbrev unless : Bool → Bool → Bool → Option Row → Option Row
unless full nmi asked row = cond (full || nmi || asked) None row

pub step_same : (state : State) → Unset state → sets_control state ≡ false → PolledStep (step state)
    (polled_step state)
unfolding step polled_step sets_control instruction_at
step_same state h e =
    let asked = irq_asked state && not state.regs.flags.i in
    let alike : asked ≡ (state.irq && not state.regs.flags.i) = ap (λ b. b && not state.regs.flags.i) (asked_by_line state.irq (input_waits state.bus) h) in
    let row = row_at state.bus.map.profile (slice_index state.bus.memory state.regs.pc) in
    subst (λ b. PolledStep (step state) (cond (nat_lt most_cycles state.cycles) (Err CyclesFull)
    (cond state.nmi (Ok (interrupt_entry (record state { nmi = false }) 0xFFFA)) (cond b (Ok (interrupt_entry state 0xFFFE)) (polled_attempt row state)))))
    alike (by (nat_lt most_cycles state.cycles) state.nmi asked row e)
  where
    by : (full nmi asked : Bool) (row : Option Row) → option_map_or (λ r. stores_odd r state) (unless full nmi asked row) false ≡ false
        → PolledStep (cond full (Err CyclesFull) (cond nmi (Ok (interrupt_entry (record state { nmi = false }) 0xFFFA))
        (cond asked (Ok (interrupt_entry state 0xFFFE)) (attempt row state))))
        (cond full (Err CyclesFull) (cond nmi (Ok (interrupt_entry (record state { nmi = false }) 0xFFFA))
        (cond asked (Ok (interrupt_entry state 0xFFFE)) (polled_attempt row state))))
    by true nmi asked row e = refused CyclesFull
    by false true asked row e = made _ _ (record { same = refl; unset = entered_unset (record state { nmi = false }) 0xFFFA h })
    by false false true row e = made _ _ (record { same = refl; unset = entered_unset state 0xFFFE h })
    by false false false row e = attempted_same row state h e

-- ---- refused steps

-- base+0 is not base+3
apart : (address port : ℕ) (full odd : Bool) → (eqb address port && full) ≡ true
    → (eqb address (port + 3) && odd) ≡ false
apart address port full odd h = grind (arith, nat_tests)

executed_refused : (row : Row) (state : State) (f : EventFault) → execution row state ≡ Err f
    → stores_odd row state ≡ false
unfolding execution stores_odd overflows
executed_refused row state f h =
    let place = effective_address state.bus state.regs row.mode in
    let op = operation_of row.mnemonic in
    apart place.address state.bus.map.port _ _ (by (stores op row.mode) (overflows state.bus place.address) _ h)
  where
    by : (a b : Bool) (new : State) → cond (a && b) (Err ConsoleFull) (Ok new) ≡ Err f → b ≡ true
    by true true new h = refl
    by true false new h = cc
    by false b new h = cc

pub refused_spares : (state : State) (f : EventFault) → step state ≡ Err f
    → sets_control state ≡ false
unfolding step sets_control instruction_at attempt
refused_spares state f h =
    by (nat_lt most_cycles state.cycles) state.nmi (irq_asked state && not state.regs.flags.i)
    (row_at state.bus.map.profile (slice_index state.bus.memory state.regs.pc)) h
  where
    by : (full nmi asked : Bool) (row : Option Row)
        → cond full (Err CyclesFull) (cond nmi (Ok (interrupt_entry (record state { nmi = false }) 0xFFFA))
        (cond asked (Ok (interrupt_entry state 0xFFFE)) (attempt row state))) ≡ Err f
        → option_map_or (λ r. stores_odd r state) (unless full nmi asked row) false ≡ false
    by true nmi asked row h = refl
    by false true asked row h = refl
    by false false true row h = refl
    by false false false None h = refl
    by false false false (Some row) h = executed_refused row state f h
