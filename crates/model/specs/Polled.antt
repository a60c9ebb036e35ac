-- The machine before its port had a control byte, when it could only be polled: base+3 read 0 and
-- took nothing, and only the IRQ line asked for an IRQ. It is here to say what the control byte
-- changed: nothing, for a session whose steps never store an odd byte at base+3. Source: mos65.
use Rattle.std.specs.Prelude.{◌≡◌, ℕ, ◌+◌, ◌%◌, ◌<◌, ⊤, Bool, false, not, ◌&&◌, ◌||◌, ◌==◌, nat_lt, if◌then◌else◌, List, [], ◌∷◌, ◌++◌, slice_index, Option, Some, None, Result, Ok, Err}
use Rattle.std.specs.List.{All}
use Rattle.std.specs.Option.{option_map_or}
use Rattle.model.specs.State.{Map, Bus, State, is_port, is_rom, input_waits, byte_read, after_read, overflows, bus_with_byte}
use Rattle.model.specs.Operand.{effective_address, is_accumulator, is_immediate}
use Rattle.model.specs.Effect.{after_operand, regs_after_read, modify_sum, modify_a, operation_of, after_operation, store_value, with_result}
use Rattle.model.specs.OpcodeTable.{row_at}
use Rattle.model.specs.Step.{past_instruction, interrupt_entry, irq_asked, most_cycles, stores}
use Rattle.model.specs.Event.{start}
use Rattle.model.specs.Session.{Session, new_session}
use Rattle.model.specs.Run.{run_end, run_end_by, after_steps, after_steps_by}
use Rattle.model.specs.Back.{states}
use Rattle.model.specs.TextLines.{lines_of}
use Rattle.model.specs.Commands.{command_of}
use Rattle.model.specs.Transcript.{Answer, Serving, answer, answer_to, run_line, serving, serving_after, stepped_answer, transcript}
use Rattle.model.specs.declared.instruction.EffectiveAddress.{EffectiveAddress}
use Rattle.model.specs.declared.instruction.Row.{Row}
use Rattle.model.specs.declared.instruction.Mode.{Mode}
use Rattle.model.specs.declared.operation.Operation.{Operation}
use Rattle.model.specs.declared.operation.Operation.TheVariants.{Read, Store, Modify}
use Rattle.model.specs.declared.operation.ReadOp.{ReadOp}
use Rattle.model.specs.declared.operation.StoreOp.{StoreOp}
use Rattle.model.specs.declared.operation.ModifyOp.{ModifyOp}
use Rattle.model.specs.declared.event.EventFault.{EventFault}
use Rattle.model.specs.declared.event.EventFault.TheVariants.{CyclesFull, Undocumented, ConsoleFull}
use Rattle.model.specs.declared.command.Command.{Command}
use Rattle.model.specs.declared.command.Command.TheVariants.{Step, Run}

-- ---- what the processor's accesses did

-- A bus read gave the byte of memory; at base+1 the next input byte or 0; at base+2 whether input
-- waits; 0 at base+0 and base+3.
unfoldable pub polled_read : Bus → ℕ → ℕ
polled_read bus address =
    if is_port bus.map address then
    (if address == bus.map.port + 1
    then (if input_waits bus then slice_index bus.given bus.taken else 0) else
    if address == bus.map.port + 2 then (if input_waits bus then 1 else 0) else
    0)
    else slice_index bus.memory address

-- A bus store at base+0 appended the byte to the output; the port's other addresses and the ROM
-- took nothing; memory took the byte.
unfoldable pub polled_write : Bus → ℕ → ℕ → Bus
polled_write bus address value =
    if is_port bus.map address then
    (if address == bus.map.port then record bus { out = bus.out ++ value ∷ [] } else bus)
    else if is_rom bus.map address then bus
    else bus_with_byte bus address value

-- ---- what the instructions did that read and store by the bus

unfoldable pub polled_operand : Mode → Bus → ℕ → ℕ
polled_operand mode bus address = if is_immediate mode then slice_index bus.memory address
    else polled_read bus address

unfoldable pub polled_load : ReadOp → Mode → EffectiveAddress → State → State
polled_load op mode place state = record state {
  regs = regs_after_read op (polled_operand mode state.bus place.address) state.regs;
  bus = after_operand mode state.bus place.address;
}

unfoldable pub polled_store : StoreOp → EffectiveAddress → State → State
polled_store op place state
    = record state { bus = polled_write state.bus place.address (store_value op state.regs) }

unfoldable pub polled_modify : ModifyOp → EffectiveAddress → State → State
polled_modify op place state =
    let sum = modify_sum op (polled_read state.bus place.address) state.regs.flags.c in
    record state {
      bus = polled_write (after_read state.bus place.address) place.address sum.value;
      regs = with_result state.regs sum;
    }

-- All others did what they do.
unfoldable pub polled_operation : Operation → Mode → EffectiveAddress → State → State
polled_operation (Read op) mode place state = polled_load op mode place state
polled_operation (Store op) mode place state = polled_store op place state
polled_operation (Modify op) mode place state = if is_accumulator mode then modify_a op state
    else polled_modify op place state
polled_operation operation mode place state = after_operation operation mode place state

-- ---- the step

unfoldable pub polled_execution : Row → State → Result State EventFault
polled_execution row state =
    let place = effective_address state.bus state.regs row.mode in
    let operation = operation_of row.mnemonic in
    if stores operation row.mode && overflows state.bus place.address then Err ConsoleFull
    else Ok (polled_operation operation row.mode place (past_instruction row place state))

unfoldable pub polled_attempt : Option Row → State → Result State EventFault
polled_attempt None state
    = Err (Undocumented (slice_index state.bus.memory state.regs.pc) state.regs.pc)
polled_attempt (Some row) state = polled_execution row state

-- The IRQ entry was taken if the line is 1 and I is 0.
unfoldable pub polled_step : State → Result State EventFault
polled_step state =
    if nat_lt most_cycles state.cycles then Err CyclesFull
    else if state.nmi then Ok (interrupt_entry (record state { nmi = false }) 0xFFFA)
    else if state.irq && not state.regs.flags.i then Ok (interrupt_entry state 0xFFFE)
    else polled_attempt
    (row_at state.bus.map.profile (slice_index state.bus.memory state.regs.pc)) state

-- ---- the transcript

-- The reply to a command. Only a step and a run make steps.
unfoldable pub polled_answer : Command → Session → Answer
polled_answer Step s = stepped_answer s (polled_step s.current)
polled_answer (Run n) s = answer (run_line (run_end_by polled_step n s))
    (after_steps_by polled_step (run_end_by polled_step n s).did s)
polled_answer command s = answer_to command s

unfoldable pub polled_serving : Session → List (List ℕ) → Serving
polled_serving s [] = record { written = []; session = s }
polled_serving s (line ∷ lines)
    = serving_after (polled_answer (command_of line) s) (λ t. polled_serving t lines)

abbrev pub polled_transcript : Session → List ℕ → Serving
polled_transcript s input = polled_serving s (lines_of input)

-- ---- steps that store an odd byte at base+3

-- The row of the instruction that a step makes: none if the step is rejected, or is an interrupt
-- entry.
unfoldable pub instruction_at : State → Option Row
instruction_at state =
    if nat_lt most_cycles state.cycles || state.nmi || (irq_asked state && not state.regs.flags.i)
    then None
    else row_at state.bus.map.profile (slice_index state.bus.memory state.regs.pc)

-- The byte that an operation stores at its operand, if it stores one.
unfoldable pub byte_stored : Operation → Mode → EffectiveAddress → State → Option ℕ
byte_stored (Store op) mode place state = Some (store_value op state.regs)
byte_stored (Modify op) mode place state =
    if is_accumulator mode then None
    else Some (modify_sum op (byte_read state.bus place.address) state.regs.flags.c).value
byte_stored operation mode place state = None

-- Whether an instruction stores an odd byte at base+3.
unfoldable pub stores_odd : Row → State → Bool
stores_odd row state =
    let place = effective_address state.bus state.regs row.mode in
    (place.address == state.bus.map.port + 3)
    && option_map_or (λ byte. byte % 2 == 1)
    (byte_stored (operation_of row.mnemonic) row.mode place state) false

-- Whether a step does.
unfoldable pub sets_control : State → Bool
sets_control state = option_map_or (λ row. stores_odd row state) (instruction_at state) false

-- No step that a command makes stores an odd byte at base+3.
abbrev pub SparesControl : Command → Session → Type 0
SparesControl Step s = sets_control s.current ≡ false
SparesControl (Run n) s = (k : ℕ) → k < (run_end n s).did
    → sets_control (after_steps k s).current ≡ false
SparesControl command s = ⊤

-- None that lines make does, up to a line that ends the engine.
abbrev pub AllSpareControl : Session → List (List ℕ) → Type 0
AllSpareControl s [] = ⊤
AllSpareControl s (line ∷ lines) =
    let a = answer_to (command_of line) s in
    SparesControl (command_of line) s × (a.quit ≡ false → AllSpareControl a.session lines)

-- ---- the law

-- A session that holds only states whose control byte is 0, and whose steps never store an odd byte
-- at base+3, is served as it was before, with the same text and the same states.
abbrev pub PolledSessionsStay : Type 0
PolledSessionsStay = (s : Session) (lines : List (List ℕ))
    → All (λ (state : State). state.bus.control ≡ false) (states s) → AllSpareControl s lines →
    serving s lines ≡ polled_serving s lines

-- So the transcript of such a session, from its start on, is unchanged.
abbrev pub PolledTranscriptsStay : Type 0
PolledTranscriptsStay = (map : Map) (image : List (Option ℕ)) (history : ℕ) (input : List ℕ) →
    AllSpareControl (new_session history (start map image)) (lines_of input) →
    transcript (new_session history (start map image)) input
    ≡ polled_transcript (new_session history (start map image)) input
