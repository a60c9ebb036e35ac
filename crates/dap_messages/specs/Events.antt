-- What a client is told besides answers. Source: Debug Adapter Protocol 1.65, "Initialized Event",
-- "Terminated Event", "Invalidated Event", "Output Event", "Stopped Event".
use Rattle.std.specs.Prelude.{ℕ, List, codes, string_bytes}
use Rattle.dap_messages.specs.Bodies.{nothing}
use Rattle.dap_messages.specs.Halts.{word_of}
use Rattle.dap_messages.specs.Values.{invalidated_body, output_body, stopped_body}
use Rattle.dap_messages.specs.declared.client_event.Category.{Category}
use Rattle.dap_messages.specs.declared.client_event.Category.TheVariants as category
use Rattle.dap_messages.specs.declared.client_event.ClientEvent.{ClientEvent}
use Rattle.dap_messages.specs.declared.client_event.ClientEvent.TheVariants as told
use Rattle.dap_messages.specs.declared.halt.Reason.{Reason}
use Rattle.serde_json.specs.Data.{Data}

-- ---- events without where their texts lie in memory

pub data SeenEvent : Type 0 where
  initialized : SeenEvent
  terminated : SeenEvent
  invalidated : SeenEvent
  output : Category → List ℕ → SeenEvent
  stopped : Reason → List ℕ → List ℕ → SeenEvent

abbrev pub event_view : ClientEvent → SeenEvent
event_view told.Initialized = initialized
event_view told.Terminated = terminated
event_view told.Invalidated = invalidated
event_view (told.Output category text) = output category (string_bytes text)
event_view (told.Stopped reason words hits) = stopped reason (string_bytes words) hits.items

-- ---- the words of the protocol

abbrev pub category_word : Category → List ℕ
category_word category.Stdout = codes "stdout"
category_word category.Console = codes "console"

abbrev pub event_word : SeenEvent → List ℕ
event_word initialized = codes "initialized"
event_word terminated = codes "terminated"
event_word invalidated = codes "invalidated"
event_word (output category text) = codes "output"
event_word (stopped reason words hits) = codes "stopped"

-- ---- the bodies

abbrev pub event_body : SeenEvent → Data
event_body initialized = nothing
event_body terminated = nothing
event_body invalidated = invalidated_body
event_body (output category text) = output_body (category_word category) text
event_body (stopped reason words hits) = stopped_body (word_of reason) words hits
