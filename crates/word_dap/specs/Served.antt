-- What is done with a message, and what is written. Source: Debug Adapter Protocol 1.65, "Base
-- protocol"; RFC 8259; what is said of a body that is no JSON, mos65.
use Rattle.std.specs.Prelude.{ℕ, ◌≡◌, Bool, true, false, List, [], ◌∷◌, Option, Some, None}
use Rattle.clap.specs.Words.{Text}
use Rattle.word_dap.specs.Slices.{IsRun}
use Rattle.word_dap.specs.declared.serving.TheConstants.{NOT_JSON}
use Rattle.dap_messages.specs.Messages.{Said, refused}
use Rattle.dap_messages.specs.Requests.{request_of}
use Rattle.dap_messages.specs.declared.request.Request.{Request}
use Rattle.dap_messages.specs.declared.request.Request.TheVariants.{Disconnect, InSession}
use Rattle.dap_messages.specs.Seen.{request_view}
use Rattle.dap_session.specs.Answered.{lets_run}
use Rattle.word_dap.specs.Adapter.{Serves}
use Rattle.word_dap.specs.declared.adapter.Adapter.{Adapter}
use Rattle.json_messages.specs.Bodies.{IsMessage}
use Rattle.serde_json.specs.Data.{Data, null}

abbrev pub asks_end : Request → Bool
asks_end Disconnect = true
asks_end asked = false

-- Whether a request lets the machine run.
abbrev pub asks_run : Request → Bool
asks_run (InSession asked) = lets_run asked
asks_run asked = false

-- A body that is no JSON is refused, as an answer to no request.
abbrev pub IsNotJson : Data → List Said → Bool → Bool → Type 0
IsNotJson request said run end = (request ≡ null) × (said ≡ refused NOT_JSON.now ∷ [])
    × (run ≡ false) × (end ≡ false)

-- A message does what it asks for, and is answered; `disconnect` asks for the end.
abbrev pub ServesMessage : Data → Adapter → Adapter → Data → List Said → Bool → Bool → Type 0
ServesMessage message old new request said run end = (request ≡ message)
    × (asked : Request) × (request_view asked ≡ request_of message) × Serves asked old new said
    × (run ≡ asks_run asked) × (end ≡ asks_end asked)

abbrev pub ServesFound : Option Data → Adapter → Adapter → Data → List Said → Bool → Bool → Type 0
ServesFound (Some message) old new request said run end
    = ServesMessage message old new request said run end
ServesFound None old new request said run end = (new ≡ old) × IsNotJson request said run end

abbrev pub ServesBody : List ℕ → Adapter → Adapter → Data → List Said → Bool → Bool → Type 0
ServesBody body old new request said run end = (found : Option Data) × IsMessage body found
    × ServesFound found old new request said run end

-- After so many messages a body is served, and a run that nothing has stopped may go on. So many
-- messages are sent then, and this is written.
unfoldable pub Answers : Option Text → List ℕ → Adapter → ℕ → Adapter → ℕ → Bool → List ℕ → Type 0
Answers seen body old sent new total end written = (request : Data) × (said : List Said)
    × (run : Bool) × (served : Adapter) × ServesBody body old served request said run end
    × IsRun seen run request said served sent new total written
