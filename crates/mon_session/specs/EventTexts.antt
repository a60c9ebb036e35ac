-- What a session says of its state and of an event. Source: mos65.
use Rattle.std.specs.Prelude.{ℕ, ◌==◌, Bool, if◌then◌else◌, List, ◌++◌, Option, Result, Ok, Err, codes, decimal}
use Rattle.model.specs.State.{State}
use Rattle.model.specs.Event.{event_of}
use Rattle.model.specs.declared.event.Event.{Event}
use Rattle.model.specs.declared.event.EventFault.{EventFault}
use Rattle.mon_instructions.specs.Instructions.{next_line}
use Rattle.mon_instructions.specs.Places.{place_text}
use Rattle.mon_session.specs.Faults.{fault_text}
use Rattle.mon_texts.specs.Registers.{state_line}
use Rattle.source_map.specs.Names.{Named}
use Rattle.mon_session.specs.Course.{Course}
use Rattle.mon_session.specs.declared.wording.TheConstants.{INTERRUPT}

-- A number and the words behind it: those for one thing, or for more.
abbrev pub count_text : ℕ → List ℕ → List ℕ → List ℕ
count_text number one more = decimal number ++ (if number == 1 then one else more)

-- The registers, with the cycles since some if that is asked for, and what comes next.
abbrev pub shown_text : State → List Named → Option ℕ → List ℕ
shown_text state names before = state_line state names before ++ next_line state names

-- Why an event was rejected.
abbrev pub rejected_text : List Named → EventFault → List ℕ
rejected_text names fault = fault_text names fault ++ codes "\n"

abbrev pub if_rejected : List Named → List ℕ → Result State EventFault → List ℕ
if_rejected names said (Ok state) = said
if_rejected names said (Err fault) = rejected_text names fault

-- What is said of an event: some words if it is accepted, otherwise why not.
unfoldable pub event_text : List Named → Event → Course → List ℕ → List ℕ
event_text names event course said
    = if_rejected names said (event_of course.0.current event)

-- Where the interrupt leads that a step has entered.
abbrev pub entry_text : List Named → ℕ → List ℕ
entry_text names pc = INTERRUPT.now ++ place_text names pc ++ codes "\n"

-- The row of a step, or that an interrupt was entered in its place.
abbrev pub row_or_entry : Bool → State → List Named → List ℕ → List ℕ
row_or_entry is_entry after names row
    = if is_entry then entry_text names after.regs.pc else row
