-- What a client is told, besides the answer to a request. Source: Debug Adapter Protocol 1.65,
-- "Output Event", "Stopped Event", "Invalidated Event"; what is told when, mos65.
use Rattle.std.specs.Prelude.{ℕ, ◌≡◌, ◌-◌, nat_lt, if◌then◌else◌, List, [], ◌∷◌, ◌++◌, codes, decimal, drop, encode_utf8, length, Option, Some, None}
use Rattle.std.specs.List.{flat_map}
use Rattle.std.specs.Str.Lossy.{utf8_lossy}
use Rattle.dap_messages.specs.SeenAnswers.{SeenAnswer}
use Rattle.dap_messages.specs.Events.{invalidated, output, stopped}
use Rattle.dap_messages.specs.Messages.{Said, done, event}
use Rattle.dap_messages.specs.declared.client_event.Category.{Category}
use Rattle.dap_messages.specs.declared.client_event.Category.TheVariants.{Console, Stdout}
use Rattle.dap_messages.specs.declared.counting.Counting.{Counting}
use Rattle.dap_messages.specs.declared.halt.Halt.{Halt}
use Rattle.dap_messages.specs.declared.halt.Reason.{Reason}
use Rattle.dap_messages.specs.declared.halt.Reason.TheVariants.{Entry}
use Rattle.dap_session.specs.declared.wording.TheConstants.{LESS_BEFORE, LESS_BEHIND}
use Rattle.model.specs.declared.event.EventFault.{EventFault}
use Rattle.mon_session.specs.Faults.{fault_text}
use Rattle.mon_session.specs.declared.mon_state.MonState.{MonState}
use Rattle.source_map.specs.Names.{Named}

-- ---- an answer

-- A request is done, and this is its answer. Events may stand behind it.
abbrev pub IsDone : SeenAnswer → List Said → Type 0
IsDone body said = (rest : List Said) × (said ≡ done body ∷ rest)

-- ---- what the program puts out

-- A byte is the character of its number.
abbrev pub characters : List ℕ → List ℕ
characters bytes = flat_map encode_utf8 bytes

abbrev pub output_said : Category → List ℕ → Said
output_said category text = event (output category text)

abbrev pub less_text : ℕ → List ℕ
less_text count = LESS_BEFORE.now ++ decimal count ++ LESS_BEHIND.now

-- What was put out since the client was told so many bytes, or that bytes were taken back.
abbrev pub console_said : ℕ → List ℕ → List Said
console_said told out = if nat_lt told (length out)
    then output_said Stdout (characters (drop told out)) ∷ []
    else if nat_lt (length out) told
    then output_said Console (less_text (told - length out)) ∷ [] else []

-- ---- that the machine stands

abbrev pub line_of : List ℕ → List ℕ
line_of words = words ++ codes "\n"

-- Before the first instruction, and at the oldest state, a remark says so.
abbrev pub remark_said : Reason → List ℕ → List Said
remark_said Entry words = output_said Console (line_of words) ∷ []
remark_said other words = []

-- The words of a halt, or why a step is refused.
abbrev pub fault_shown : List Named → EventFault → List ℕ
fault_shown names fault = utf8_lossy (fault_text names fault)

abbrev pub halt_shown : List Named → List ℕ → Option EventFault → List ℕ
halt_shown names words (Some fault) = fault_shown names fault
halt_shown names words None = words

-- Some breakpoints, by their numbers, may have stopped it.
abbrev pub stopped_said : Reason → List ℕ → List ℕ → Said
stopped_said reason words hits = event (stopped reason words hits)

-- All of it, in this order.
abbrev pub told_of : MonState → ℕ → Halt → List ℕ → List Said
told_of mon told halt hits = console_said told mon.session.current.bus.out
    ++ remark_said halt.reason halt.words.now
    ++ stopped_said halt.reason
    (halt_shown mon.places.names halt.words.now halt.fault) hits ∷ []

-- All that is shown may have changed, which is said to a client that can be told so.
abbrev pub unmoved_said : Counting → List Said
unmoved_said counting = if counting.can_invalidate
    then event invalidated ∷ [] else []
