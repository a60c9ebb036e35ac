-- What is said of lines that make events. Source: mos65.
use Rattle.std.specs.Prelude.{ℕ, ◌+◌, nat_lt, Bool, if◌then◌else◌, List, ◌++◌, length, Option, None, Some, Result, Ok, Err, codes}
use Rattle.model.specs.State.{State}
use Rattle.model.specs.FaultNames.{source_fault_name}
use Rattle.model.specs.OneLineAssembly.{one_line}
use Rattle.model.specs.declared.event.Event.{Event}
use Rattle.model.specs.declared.event.Event.TheVariants.{Irq, Nmi}
use Rattle.model.specs.declared.event.EventFault.{EventFault}
use Rattle.model.specs.declared.event.EventFault.TheVariants.{PastEnd}
use Rattle.model.specs.declared.source_fault.AsmFaultKind.{AsmFaultKind}
use Rattle.mon_session.specs.Course.{Course, happened}
use Rattle.mon_session.specs.EventTexts.{count_text, event_text, rejected_text, shown_text}
use Rattle.mon_instructions.specs.Instructions.{instruction_line}
use Rattle.mon_instructions.specs.Places.{place_text}
use Rattle.source_map.specs.Lines.{PlacesView}
use Rattle.source_map.specs.Names.{Named}
use Rattle.mon_settings.specs.ByteLines.{first_fault, inputs, patch, patches}
use Rattle.mon_settings.specs.declared.wording.TheConstants.{BYTES_AT, BYTES_HANDED_IN, BYTE_AT, BYTE_HANDED_IN, IRQ_MASKED, IRQ_NEXT, NMI_NEXT, NOT_ASSEMBLED, NO_IRQ}
use Rattle.mon_line_parts.specs.declared.topic.Topic.TheVariants.{Asm}
use Rattle.mon_texts.specs.Help.{example_text}

-- ---- one event

-- The state after an event, shown if the event is accepted.
abbrev pub shown_event : List Named → Event → Course → List ℕ
shown_event names event course = event_text names event course
    (shown_text (happened event course).0.current names None)

-- When an interrupt is entered, or that none is asked for.
abbrev pub if_masked : Bool → List ℕ
if_masked is_masked = if is_masked
    then IRQ_MASKED.now
    else IRQ_NEXT.now

abbrev pub level_text : Bool → State → List ℕ
level_text level state = if level then if_masked state.regs.flags.i
    else NO_IRQ.now

abbrev pub irq_text : List Named → Bool → Course → List ℕ
irq_text names level course = event_text names (Irq level) course
    (level_text level (happened (Irq level) course).0.current)

abbrev pub nmi_text : List Named → Course → List ℕ
nmi_text names course
    = event_text names Nmi course NMI_NEXT.now

-- ---- events one after another

-- What is said of events: some words if all are accepted, otherwise why the first is not that is
-- rejected.
unfoldable pub events_text : List Named → List ℕ → Option EventFault → List ℕ
events_text names said None = said
events_text names said (Some fault) = rejected_text names fault

-- How many bytes were put into memory, and where.
abbrev pub stored_text : List Named → ℕ → ℕ → List ℕ
stored_text names address count = count_text count BYTE_AT.now BYTES_AT.now
    ++ place_text names address ++ codes "\n"

abbrev pub put_text : List Named → ℕ → List ℕ → Course → List ℕ
put_text names address bytes course = if nat_lt 65536 (address + length bytes)
    then rejected_text names PastEnd
    else events_text names (stored_text names address (length bytes))
    (first_fault (patches address bytes) course)

-- How many bytes were handed to the console's input.
abbrev pub handed_text : List Named → List ℕ → Course → List ℕ
handed_text names bytes course = events_text names
    (count_text (length bytes) BYTE_HANDED_IN.now BYTES_HANDED_IN.now)
    (first_fault (inputs bytes) course)

-- ---- an instruction

-- Why a text is not assembled.
abbrev pub not_assembled_text : AsmFaultKind → List ℕ
not_assembled_text kind = NOT_ASSEMBLED.now ++ source_fault_name kind
    ++ (example_text (Some Asm) ++ codes "\n")

-- The line of an instruction that was put into memory by an event.
abbrev pub patched_text : PlacesView → ℕ → Event → Course → List ℕ
patched_text places address event course = event_text places.names event course
    (instruction_line (happened event course).0.current places address)

abbrev pub if_assembled_text : PlacesView → ℕ → Course → Result (List ℕ) AsmFaultKind → List ℕ
if_assembled_text places address course (Ok bytes)
    = patched_text places address (patch address bytes) course
if_assembled_text places address course (Err kind) = not_assembled_text kind

abbrev pub assembled_text : PlacesView → ℕ → List ℕ → Course → List ℕ
assembled_text places address text course = if_assembled_text places address course
    (one_line course.0.current.bus.map.profile address text)
