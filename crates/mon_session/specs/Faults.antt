-- Why an event is refused. Source: mos65.
use Rattle.std.specs.Prelude.{ℕ, List, ◌++◌, codes}
use Rattle.model.specs.Text.{hex_byte}
use Rattle.model.specs.declared.event.EventFault.{EventFault}
use Rattle.model.specs.declared.event.EventFault.TheVariants as fault
use Rattle.source_map.specs.Names.{Named}
use Rattle.mon_instructions.specs.Places.{place_text}
use Rattle.mon_session.specs.declared.wording.TheConstants.{AT, CONSOLE_FULL, CYCLES_FULL, INPUT_FULL, NO_INSTRUCTION, PAST_END, PORT_ADDRESS, TOO_MANY_BYTES}

-- A byte that is no instruction, and its place.
abbrev pub undocumented_text : List Named → ℕ → ℕ → List ℕ
undocumented_text names opcode pc = codes "$" ++ hex_byte opcode ++ AT.now
    ++ place_text names pc ++ NO_INSTRUCTION.now

-- Why an event is refused.
unfoldable pub fault_text : List Named → EventFault → List ℕ
fault_text names fault.CyclesFull = CYCLES_FULL.now
fault_text names (fault.Undocumented opcode pc) = undocumented_text names opcode pc
fault_text names fault.ConsoleFull = CONSOLE_FULL.now
fault_text names fault.PastEnd = PAST_END.now
fault_text names fault.PortAddress = PORT_ADDRESS.now
fault_text names fault.BadLength = TOO_MANY_BYTES.now
fault_text names fault.InputFull = INPUT_FULL.now
