-- What the engine writes for some input, and the session after it. Source: mos65.
use Rattle.std.specs.Prelude.{◌≡◌, ℕ, ◌+◌, Bool, true, false, List, [], ◌∷◌, ◌++◌, length, take, nat_lt, if◌then◌else◌, codes, decimal, Result, Ok, Err}
use Rattle.model.specs.State.{State, console_size}
use Rattle.model.specs.Event.{event_of, patch_of}
use Rattle.model.specs.Session.{Session, with_state}
use Rattle.model.specs.Run.{run_end, after_steps}
use Rattle.model.specs.Back.{back_of}
use Rattle.model.specs.Breakpoints.{break_set, break_cleared, watch_set, watch_cleared}
use Rattle.model.specs.FaultNames.{event_fault_name, event_fault_number, session_fault_name, session_fault_number, source_fault_name, source_fault_number}
use Rattle.model.specs.TextLines.{lines_of, ended_lines_of}
use Rattle.model.specs.Commands.{command_of}
use Rattle.model.specs.OneLineAssembly.{one_line}
use Rattle.model.specs.Disassembly.{rows_in}
use Rattle.model.specs.Text.{hex_byte, hex_address, register_line, memory_rows, output_text, breaks_line}
use Rattle.model.specs.declared.command.Command.{Command}
use Rattle.model.specs.declared.command.Command.TheVariants.{Regs, Step, Mem, Out, Set, Patch, Reset, Irq, Nmi, Input, Run, Back, Break, Unbreak, Watch, Unwatch, Breaks, Dis, Asm, Quit, Nothing, Bad}
use Rattle.model.specs.declared.event.Event.TheVariants as event
use Rattle.model.specs.declared.event.EventFault.{EventFault}
use Rattle.model.specs.declared.event.EventFault.TheVariants as event_fault
use Rattle.model.specs.declared.session_fault.SessionFault.{SessionFault}
use Rattle.model.specs.declared.session_fault.SessionFault.TheVariants.{NoHistory}
use Rattle.model.specs.declared.source_fault.AsmFaultKind.{AsmFaultKind}
use Rattle.model.specs.declared.run_end.Why.{Why}
use Rattle.model.specs.declared.run_end.Why.TheVariants as why
use Rattle.model.specs.declared.run_end.RunEnd.{RunEnd}

-- The answer to a command: a text, the session then, and whether the engine ends.
pub record Answer : Type 0 where
  pub written : List ℕ
  pub session : Session
  pub quit : Bool

abbrev pub answer : List ℕ → Session → Answer
answer text s = record { written = text; session = s; quit = false }

-- Why an event is rejected, as replies name it.
unfoldable pub refused_text : EventFault → List ℕ
refused_text (event_fault.Undocumented opcode pc)
    = codes "FAULT " ++ hex_byte opcode ++ codes " AT " ++ hex_address pc
refused_text event_fault.ConsoleFull = codes "CONSOLE FULL"
refused_text event_fault.CyclesFull = codes "CYCLES FULL"
refused_text fault = event_fault_name fault ++ 32 ∷ decimal (event_fault_number fault)

-- The reply to a rejected event.
unfoldable pub fault_line : EventFault → List ℕ
fault_line fault = codes "! " ++ refused_text fault ++ 10 ∷ []

-- The reply to a step: the register line after it, or why it was rejected.
abbrev pub stepped_answer : Session → Result State EventFault → Answer
stepped_answer s (Ok state) = answer (register_line state) (with_state s state)
stepped_answer s (Err fault) = answer (fault_line fault) s

-- The reply to another event: OK, or why it was rejected.
abbrev pub event_answer : Session → Result State EventFault → Answer
event_answer s (Ok state) = answer (codes "OK\n") (with_state s state)
event_answer s (Err fault) = answer (fault_line fault) s

-- The session after an event, whether it was accepted or not.
abbrev pub after_event : Session → Result State EventFault → Session
after_event s (Ok state) = with_state s state
after_event s (Err fault) = s

-- The session after some bytes of input, each an event of its own.
unfoldable pub after_input : Session → List ℕ → Session
after_input s [] = s
after_input s (byte ∷ bytes)
    = after_input (after_event s (event_of s.current (event.Input byte))) bytes

-- The reply to bytes of input: all of them are handed in, or none if not all fit.
unfoldable pub input_answer : Session → List ℕ → Answer
input_answer s bytes =
    if nat_lt console_size (length s.current.bus.given + length bytes)
    then answer (fault_line event_fault.InputFull) s
    else answer (codes "OK\n") (after_input s bytes)

-- Why a run ended, as its reply names it.
unfoldable pub why_text : Why → List ℕ
why_text (why.Watch address) = codes "WATCH " ++ hex_address address
why_text (why.Break address) = codes "BREAK " ++ hex_address address
why_text why.Limit = codes "LIMIT"
why_text (why.Refused fault) = refused_text fault

-- The reply to a run: how many steps it made, and why it ended.
unfoldable pub run_line : RunEnd → List ℕ
run_line end = codes "DID " ++ decimal end.did ++ 32 ∷ why_text end.why ++ 10 ∷ []

-- The reply to a rejected call of the session. If too few events are held, it says how many are.
unfoldable pub refusal_line : SessionFault → List ℕ
refusal_line (NoHistory held) = codes "! HISTORY " ++ decimal held ++ 10 ∷ []
refusal_line fault
    = codes "! " ++ session_fault_name fault ++ 32 ∷ decimal (session_fault_number fault) ++ 10 ∷ []

-- The reply to going back: the register line of the restored state, or why it was rejected.
abbrev pub back_answer : Session → Result Session SessionFault → Answer
back_answer s (Ok t) = answer (register_line t.current) t
back_answer s (Err fault) = answer (refusal_line fault) s

-- The reply to a breakpoint or a watchpoint set or cleared: OK, or why it was rejected.
abbrev pub table_answer : Session → Result Session SessionFault → Answer
table_answer s (Ok t) = answer (codes "OK\n") t
table_answer s (Err fault) = answer (refusal_line fault) s

-- The reply to a text that is not one line of a source: the fault's name and number.
unfoldable pub source_fault_line : AsmFaultKind → List ℕ
source_fault_line kind
    = codes "! " ++ source_fault_name kind ++ 32 ∷ decimal (source_fault_number kind) ++ 10 ∷ []

-- The reply to a text to assemble at an address: that of a patch with its bytes, or why the text is
-- rejected.
abbrev pub asm_answer : Session → ℕ → Result (List ℕ) AsmFaultKind → Answer
asm_answer s address (Ok bytes) = event_answer s (patch_of address bytes s.current)
asm_answer s address (Err kind) = answer (source_fault_line kind) s

-- The reply to a command.
unfoldable pub answer_to : Command → Session → Answer
answer_to Regs s = answer (register_line s.current) s
answer_to Step s = stepped_answer s (event_of s.current event.Step)
answer_to (Mem first last) s = answer (memory_rows s.current.bus.memory first last) s
answer_to Out s = answer (output_text s.current.bus.out) s
answer_to (Set setting) s = event_answer s (event_of s.current (event.Set setting))
answer_to (Patch address bytes count) s
    = event_answer s (event_of s.current (event.Patch address bytes count))
answer_to Reset s = event_answer s (event_of s.current event.Reset)
answer_to (Irq level) s = event_answer s (event_of s.current (event.Irq level))
answer_to Nmi s = event_answer s (event_of s.current event.Nmi)
answer_to (Input bytes count) s = input_answer s (take count bytes)
answer_to (Run n) s = answer (run_line (run_end n s)) (after_steps (run_end n s).did s)
answer_to (Back n) s = back_answer s (back_of n s)
answer_to (Break address) s = table_answer s (break_set address s)
answer_to (Unbreak address) s = table_answer s (break_cleared address s)
answer_to (Watch address) s = table_answer s (watch_set address s)
answer_to (Unwatch address) s = table_answer s (watch_cleared address s)
answer_to Breaks s = answer (breaks_line s.breaks) s
answer_to (Dis address count) s
    = answer (rows_in s.current.bus.map.profile s.current.bus.memory 65535 address count) s
answer_to (Asm address text count) s
    = asm_answer s address (one_line s.current.bus.map.profile address (take count text))
answer_to Quit s = record { written = []; session = s; quit = true }
answer_to Nothing s = answer [] s
answer_to Bad s = answer (codes "? BAD COMMAND\n") s

-- What is written for some lines, and the session then.
pub record Serving : Type 0 where
  pub written : List ℕ
  pub session : Session

abbrev pub after_text : List ℕ → Serving → Serving
after_text text r = record { written = text ++ r.written; session = r.session }

abbrev pub serving_after : Answer → (Session → Serving) → Serving
serving_after a rest = if a.quit then record { written = a.written; session = a.session }
    else after_text a.written (rest a.session)

-- The lines one after another, up to one that ends the engine.
unfoldable pub serving : Session → List (List ℕ) → Serving
serving s [] = record { written = []; session = s }
serving s (line ∷ lines) = serving_after (answer_to (command_of line) s) (λ t. serving t lines)

-- The transcript of a whole input.
abbrev pub transcript : Session → List ℕ → Serving
transcript s input = serving s (lines_of input)

-- The transcript of the complete lines, if the reader failed after them.
abbrev pub transcript_so_far : Session → List ℕ → Serving
transcript_so_far s input = serving s (ended_lines_of input)

-- The replies to the input so far begin the transcript, whatever is still to come.
abbrev pub ToldBegins : Type 0
ToldBegins = (s : Session) (told left : List ℕ) → (more : List ℕ)
    × ((transcript s (told ++ left)).written ≡ (transcript_so_far s told).written ++ more)
