-- Messages to the client. Source: Debug Adapter Protocol 1.65, "Base protocol".
use Rattle.std.specs.Prelude.{ℕ, ◌+◌, ◌==◌, true, false, if◌then◌else◌, List, [], ◌∷◌, codes, string_bytes}
use Rattle.dap_messages.specs.Bodies.{nothing}
use Rattle.dap_messages.specs.Events.{SeenEvent, event_body, event_view, event_word}
use Rattle.dap_messages.specs.Names.{command_of, number_of}
use Rattle.dap_messages.specs.SeenAnswers.{SeenAnswer, answer_view}
use Rattle.dap_messages.specs.Written.{answer_data}
use Rattle.dap_messages.specs.declared.message.Message.{Message}
use Rattle.dap_messages.specs.declared.message.Message.TheVariants.{Done, Refused, Event}
use Rattle.json_messages.specs.Values.{count, flag, object_of, word}
use Rattle.serde_json.specs.Data.{Data, Members, no_members, put}

-- ---- what is said

-- A request is done, with a body; it is refused, with words; or something has happened.
pub data Said : Type 0 where
  done : SeenAnswer → Said
  refused : List ℕ → Said
  event : SeenEvent → Said

abbrev pub said_of : Message → Said
said_of (Done answer) = done (answer_view answer)
said_of (Refused words) = refused (string_bytes words)
said_of (Event told) = event (event_view told)

-- ---- messages

-- The number of a message, the command and the number of the request that it answers, and a body or
-- words.
abbrev pub response_data : ℕ → List ℕ → ℕ → Data → Data
response_data n command request body = object_of ((codes "body", body)
    ∷ (codes "command", word command) ∷ (codes "request_seq", count request)
    ∷ (codes "seq", count n)
    ∷ (codes "success", flag true) ∷ (codes "type", word (codes "response")) ∷ [])

-- What every response has: the command and the number of the request that it answers.
abbrev pub response_members : Data → Members
response_members request = put (codes "type") (word (codes "response"))
    (put (codes "request_seq") (count (number_of request))
    (put (codes "command") (word (command_of request)) no_members))

abbrev pub refusal_data : ℕ → List ℕ → ℕ → List ℕ → Data
refusal_data n command request words = object_of ((codes "body", nothing)
    ∷ (codes "command", word command) ∷ (codes "message", word words)
    ∷ (codes "request_seq", count request) ∷ (codes "seq", count n)
    ∷ (codes "success", flag false) ∷ (codes "type", word (codes "response")) ∷ [])

abbrev pub event_data : ℕ → List ℕ → Data → Data
event_data n name body = object_of ((codes "body", body) ∷ (codes "event", word name)
    ∷ (codes "seq", count n) ∷ (codes "type", word (codes "event")) ∷ [])

-- A message with its number, as an answer to a request.
abbrev pub data_of : ℕ → Data → Said → Data
data_of n request (done answer)
    = response_data n (command_of request) (number_of request) (answer_data answer)
data_of n request (refused words)
    = refusal_data n (command_of request) (number_of request) words
data_of n request (event told) = event_data n (event_word told) (event_body told)

-- Messages are numbered 1, 2, 3 and so on, up to the largest number of 64 bits.
abbrev pub next_number : ℕ → ℕ
next_number sent = if sent == 18446744073709551615 then sent else sent + 1
