-- A step leads from a state to a state.
use Rattle.std.proofs.Common.{◌≡◌, ℕ, ◌+◌, ◌<◌, ◌≤◌, Bool, true, false, cond, Option, Some, None, Ok, Err, refl, ap, ◌∙◌, arith}
use Rattle.std.specs.Prelude.{slice_index, ◌&&◌, not, nat_lt}
use Rattle.std.proofs.lemmas.Bool.Decides.{nat_tests}
use Rattle.model.specs.State.{State, overflows, IsBus, AreRegs, IsState}
use Rattle.model.specs.Operand.{effective_address}
use Rattle.model.specs.Effect.{after_operation, operation_of}
use Rattle.model.specs.OpcodeTable.{row_at}
use Rattle.model.specs.Step.{stores, past_instruction, execution, attempt, interrupt_entry, most_cycles, irq_asked, step}
use Rattle.model.specs.declared.instruction.EffectiveAddress.{EffectiveAddress}
use Rattle.model.specs.declared.instruction.Row.{Row}
use Rattle.model.specs.declared.event.EventFault.TheVariants.{CyclesFull, ConsoleFull}
use Rattle.law_states.proofs.Numbers.{byte_small, place_small, bit_small, cycles_small}
use Rattle.law_states.proofs.Effects.{IsSound, performed_leads, interrupted_leads}

-- a state that follows another: a state, with the same map
pub record Follows (before after : State) : Type 0 where
  pub state : IsState after
  pub map : after.bus.map ≡ before.bus.map

-- the most cycles that a step or a reset adds
abbrev HasRoom : State → Type 0
HasRoom s = s.cycles ≤ most_cycles

-- ---- entries

entered_follows : (s : State) (vector : ℕ) → IsState s → HasRoom s
    → Follows s (interrupt_entry s vector)
unfolding interrupt_entry
entered_follows s vector h room =
    let sound : IsSound s = record { bus = h.bus; regs = h.regs } in
    let entry = interrupted_leads s s.regs.pc false vector sound h.regs.pc in
    record { state = record { bus = entry.bus.bus; regs = entry.regs; cycles = omega arith }; map = entry.bus.map }

-- ---- instructions

-- what is fetched is sound, and has at most eight cycles more
fetched_sound : (row : Row) (place : EffectiveAddress) (s : State) → IsState s
    → IsSound (past_instruction row place s)
unfolding past_instruction
fetched_sound row place s h = record {
  bus = h.bus;
  regs = record { a = h.regs.a; x = h.regs.x; y = h.regs.y; s = h.regs.s; pc = omega arith };
}

cycles-fetched : (row : Row) (place : EffectiveAddress) (s : State) → row.cycles ≤ 7
    → (past_instruction row place s).cycles ≤ s.cycles + 8
unfolding past_instruction
cycles-fetched row place s few = omega (arith, bit_small (row.penalty && place.crossed))

bus-fetched : (row : Row) (place : EffectiveAddress) (s : State)
    → (past_instruction row place s).bus ≡ s.bus
unfolding past_instruction
bus-fetched row place s = refl

done_follows : (row : Row) (place : EffectiveAddress) (s : State) → IsState s → HasRoom s
    → row.cycles ≤ 7 → place.address < 65536
    → (stores (operation_of row.mnemonic) row.mode && overflows s.bus place.address) ≡ false
    → Follows s (after_operation (operation_of row.mnemonic) row.mode place (past_instruction row place s))
done_follows row place s h room few near fits =
    let before = past_instruction row place s in
    let same : (stores (operation_of row.mnemonic) row.mode && overflows before.bus place.address) ≡ false =
    ap (λ b. stores (operation_of row.mnemonic) row.mode && overflows b place.address) (bus-fetched row place s) ∙ fits in
    let after = performed_leads (operation_of row.mnemonic) row.mode place before (fetched_sound row place s h) near same in
    let few_more = cycles-fetched row place s few in
    record {
      state = record { bus = after.bus.bus; regs = after.regs; cycles = omega (arith, after.cycles) };
      map =
          after.bus.map ∙ ap (λ (b : Rattle.model.specs.State.Bus). b.map) (bus-fetched row place s);
    }

executed_by : (row : Row) (place : EffectiveAddress) (s after : State) (refused : Bool) → IsState s
    → HasRoom s → row.cycles ≤ 7 → place.address < 65536
    → (stores (operation_of row.mnemonic) row.mode && overflows s.bus place.address) ≡ refused
    → cond refused (Err ConsoleFull)
    (Ok (after_operation (operation_of row.mnemonic) row.mode place (past_instruction row place s)))
    ≡ Ok after → Follows s after
executed_by row place s after true h room few near fits e = cc
executed_by row place s after false h room few near fits e =
    let same : after_operation (operation_of row.mnemonic) row.mode place (past_instruction row place s) ≡ after = cc in
    rw same at (done_follows row place s h room few near fits)

executed_follows : (row : Row) (s after : State) → IsState s → HasRoom s → row.cycles ≤ 7
    → execution row s ≡ Ok after → Follows s after
unfolding execution
executed_follows row s after h room few e = executed_by row (effective_address s.bus s.regs row.mode) s after _ h room few
    (place_small s.bus s.regs row.mode h.bus) refl e

attempted_follows : (row : Option Row) (s after : State) → IsState s → HasRoom s
    → row_at s.bus.map.profile (slice_index s.bus.memory s.regs.pc) ≡ row → attempt row s ≡ Ok after
    → Follows s after
unfolding attempt
attempted_follows None s after h room is e = cc
attempted_follows (Some row) s after h room is e =
    executed_follows row s after h room (cycles_small s.bus.map.profile (slice_index s.bus.memory s.regs.pc) row
    (byte_small s.bus.memory s.regs.pc h.bus.memory) is) e

-- ---- steps

abbrev forgotten : State → State
forgotten s = record s { nmi = false }

step_by : (s after : State) (full nmi irq : Bool) → IsState s → nat_lt most_cycles s.cycles ≡ full
    → cond full (Err CyclesFull)
    (cond nmi (Ok (interrupt_entry (forgotten s) 0xFFFA)) (cond irq (Ok (interrupt_entry s 0xFFFE))
    (attempt (row_at s.bus.map.profile (slice_index s.bus.memory s.regs.pc)) s)))
    ≡ Ok after
    → Follows s after
step_by s after true nmi irq h full e = cc
step_by s after false true irq h full e =
    let room : HasRoom s = grind (arith, nat_tests) in
    let same : interrupt_entry (forgotten s) 0xFFFA ≡ after = cc in
    let begun : IsState (forgotten s) = record { bus = h.bus; regs = h.regs; cycles = h.cycles } in
    let entry = entered_follows (forgotten s) 0xFFFA begun room in
    let whole : Follows s (interrupt_entry (forgotten s) 0xFFFA) = record { state = entry.state; map = entry.map } in
    rw same at whole
step_by s after false false true h full e =
    let room : HasRoom s = grind (arith, nat_tests) in
    let same : interrupt_entry s 0xFFFE ≡ after = cc in
    rw same at (entered_follows s 0xFFFE h room)
step_by s after false false false h full e =
    let room : HasRoom s = grind (arith, nat_tests) in
    attempted_follows (row_at s.bus.map.profile (slice_index s.bus.memory s.regs.pc)) s after h room refl e

pub step_follows : (s after : State) → IsState s → step s ≡ Ok after → Follows s after
unfolding step
step_follows s after h e = step_by s after (nat_lt most_cycles s.cycles) s.nmi (irq_asked s && not s.regs.flags.i) h refl e
