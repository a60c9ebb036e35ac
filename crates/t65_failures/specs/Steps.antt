-- The last steps of a call as text, and the session after they are told. Source: mos65.
use Rattle.std.specs.Prelude.{ℕ, zero, suc, ◌+◌, ◌-◌, ◌%◌, ◌==◌, nat_lt, false, min, if◌then◌else◌, List, [], ◌∷◌, ◌++◌, Option, None, Some, Result, Ok, Err, codes, decimal, encode_utf8, length, map, slice_index}
use Rattle.std.specs.List.{flat_map}
use Rattle.formatting.specs.Padding.{padded}
use Rattle.model.specs.Back.{back_of}
use Rattle.model.specs.Disassembly.{row_line}
use Rattle.model.specs.Effect.{status}
use Rattle.model.specs.InstructionText.{row_of}
use Rattle.model.specs.Run.{after_steps}
use Rattle.model.specs.Session.{Session}
use Rattle.model.specs.State.{State}
use Rattle.model.specs.declared.registers.Regs.{Regs}
use Rattle.model.specs.declared.session_fault.SessionFault.{SessionFault}
use Rattle.source_map.specs.Lines.{PlacesView, SourceView, file_name, row_at}
use Rattle.source_map.specs.declared.rows.Row.{Row}
use Rattle.t65_failures.specs.declared.wording.TheConstants.{A_IS, IRQ, LAST_STEPS, NMI, P_IS, S_IS, X_IS, Y_IS}
use Rattle.t65_reader.specs.declared.row.Request.{Request}
use Rattle.t65_reader.specs.declared.row.Signal.{Signal}
use Rattle.t65_reader.specs.declared.row.Signal.TheVariants.{Irq, Nmi}
use Rattle.t65_runner.specs.Requests.{after_arrival, arrival_events}
use Rattle.t65_failures.specs.Texts.{named_byte}
use Rattle.t65_values.specs.Visible.{visible_text}

-- ---- a step

-- The bytes of memory at an address and at the two after it. $0000 comes after $FFFF.
abbrev pub three_bytes : List ℕ → ℕ → List ℕ
three_bytes memory address = slice_index memory address
    ∷ slice_index memory ((address + 1) % 65536) ∷ slice_index memory ((address + 2) % 65536) ∷ []

abbrev pub row_by : State → ℕ → List ℕ → List ℕ
row_by state address bytes
    = row_line address bytes (row_of state.bus.map.profile bytes address)

-- A byte of a row as a character, and nothing for the line's end.
abbrev pub row_character : ℕ → List ℕ
row_character b = if b == 10 then [] else encode_utf8 b

-- The row of the instruction at an address, without its line's end.
unfoldable pub instruction_text : State → ℕ → List ℕ
instruction_text state address
    = flat_map row_character (row_by state address (three_bytes state.bus.memory address))

-- The registers. The status register is told with B clear.
unfoldable pub regs_text : Regs → List ℕ
regs_text regs = named_byte A_IS.now regs.a ++ named_byte X_IS.now regs.x
    ++ named_byte Y_IS.now regs.y ++ named_byte S_IS.now regs.s
    ++ named_byte P_IS.now (status false regs.flags)

-- The line of a row with its file, if there is one.
abbrev pub source_by : List SourceView → Option Row → List ℕ
source_by sources None = []
source_by sources (Some row) = codes "  " ++ visible_text (file_name sources row.file) ++ codes ":"
    ++ decimal row.line

-- The line of the source whose bytes stand at an address.
abbrev pub source_text : PlacesView → ℕ → List ℕ
source_text places address = source_by places.sources (row_at places.lines address)

-- A step from one state to another: the instruction that came next in the first, the registers in
-- the second, and the line of the source.
unfoldable pub step_text : PlacesView → State → State → List ℕ
step_text places before after = codes "  " ++ padded 30 (instruction_text before before.regs.pc)
    ++ regs_text after.regs ++ source_text places before.regs.pc ++ codes "\n"

-- ---- the last steps

-- So many steps from a session on. Where a step is rejected, the session stays.
unfoldable pub steps_text : PlacesView → ℕ → Session → List ℕ
steps_text places zero s = []
steps_text places (suc n) s = step_text places s.current (after_steps 1 s).current
    ++ steps_text places n (after_steps 1 s)

-- How many of so many steps are told.
abbrev pub told_count : ℕ → ℕ
told_count did = min did 20

-- The steps that were undone, from the session before them on; nothing if they cannot be undone.
abbrev pub undone_text : PlacesView → ℕ → Result Session SessionFault → List ℕ
undone_text places count (Ok s) = LAST_STEPS.now
    ++ steps_text places count s
undone_text places count (Err fault) = []

-- The last steps of a call of so many.
unfoldable pub last_steps_text : PlacesView → ℕ → Session → List ℕ
last_steps_text places did s
    = undone_text places (told_count did) (back_of (told_count did) s)

-- ---- an interrupt among them

abbrev pub signal_name : Signal → List ℕ
signal_name Irq = IRQ.now
signal_name Nmi = NMI.now

abbrev pub signal_text : Signal → List ℕ
signal_text signal = codes "(" ++ signal_name signal ++ codes ")"

-- The entry of an interrupt, with the registers after it.
unfoldable pub arrival_text : Signal → State → List ℕ
arrival_text signal after = codes "  " ++ padded 30 (signal_text signal)
    ++ regs_text after.regs ++ codes "\n"

-- How many events an interrupt's coming is.
abbrev pub arrival_count : Signal → ℕ
arrival_count signal = length (arrival_events signal)

-- How many of the steps before an interrupt are told, where so many after its entry are.
abbrev pub told_before : ℕ → ℕ → ℕ
told_before before did = min before (19 - did)

-- So many steps, the entry of an interrupt, and so many steps, from a session on.
unfoldable pub around_text : PlacesView → Signal → ℕ → ℕ → Session → List ℕ
around_text places signal before did s = LAST_STEPS.now ++ steps_text places before s
    ++ arrival_text signal (after_arrival signal (after_steps before s)).current
    ++ steps_text places did (after_arrival signal (after_steps before s))

-- The same, from the session on before they were undone; nothing if they cannot be undone.
abbrev pub around_undone : PlacesView → Signal → ℕ → ℕ → Result Session SessionFault → List ℕ
around_undone places signal before did (Ok s) = around_text places signal before did s
around_undone places signal before did (Err fault) = []

-- The last steps of a call that an interrupt has come into: those before it, and so many after its
-- entry.
unfoldable pub arrival_steps_text : PlacesView → Signal → ℕ → ℕ → Session → List ℕ
arrival_steps_text places signal before did s = if nat_lt did 20
    then around_undone places signal (told_before before did) did
    (back_of (told_before before did + arrival_count signal + did) s)
    else last_steps_text places did s

-- The last steps of a call, the entry of an interrupt among them.
abbrev pub steps_by : PlacesView → Option Request → Option ℕ → ℕ → Session → List ℕ
steps_by places (Some request) (Some before) did s
    = arrival_steps_text places request.signal before did s
steps_by places request before did s = last_steps_text places did s

-- The session in which the steps that were undone are made again.
abbrev pub made_again : ℕ → Session → Result Session SessionFault → Session
made_again count s (Ok before) = after_steps count before
made_again count s (Err fault) = s

-- The session after the last steps were undone and made again.
unfoldable pub after_last_steps : ℕ → Session → Session
after_last_steps did s = made_again (told_count did) s (back_of (told_count did) s)
