-- What a server does with a message. `words` is the map that the words of the command line ask for,
-- and `bus_map` the one in use. Source: Language Server Protocol 3.17, "Server lifecycle",
-- "Text Document Synchronization", "PublishDiagnostics Notification", "DidChangeConfiguration
-- Notification", "ShowMessage Notification"; JSON-RPC 2.0: a message with
-- `id` and `method` is a request, one without `id` a notice, one with `id` and `result` or `error`
-- an answer.
use Rattle.std.specs.Prelude.{◌≡◌, ℕ, ◌&&◌, ◌||◌, not, is_some, Bool, true, false, if◌then◌else◌, List, [], ◌∷◌, codes, Option, Some, None}
use Rattle.clean_source.specs.Cleaned.{cleaned}
use Rattle.word_lsp.specs.Answers.{IsFailure, IsReply}
use Rattle.word_lsp.specs.Settings.{chosen_after, chosen_map, is_wrong, map_in, settings_asked, settings_noted}
use Rattle.word_lsp.specs.State.{Opened, State, closed, known, opened, text_in}
use Rattle.word_lsp.specs.declared.phase.Phase.{Phase}
use Rattle.word_lsp.specs.declared.phase.Phase.TheVariants.{Fresh, Running, ShutDown}
use Rattle.lsp_answers.specs.Marks.{AreMarks}
use Rattle.lsp_answers.specs.Texts.{text_of}
use Rattle.lsp_messages.specs.Requests.{RequestView, initialize, configures, shutdown, exit, opens, changes, closes, request_of}
use Rattle.lsp_messages.specs.Settings.{SettingsView}
use Rattle.lsp_messages.specs.TextChanges.{changed_text}
use Rattle.lsp_messages.specs.Replies.{notice_data}
use Rattle.json_messages.specs.Values.{list_of}
use Rattle.lsp_messages.specs.Values.{mark_data, marks_data, range_data, shown_data}
use Rattle.lsp_messages.specs.declared.replies.Failure.{Failure}
use Rattle.lsp_messages.specs.declared.replies.Failure.TheVariants.{NotJson, NoRequest}
use Rattle.model.specs.State.{Map}
use Rattle.serde_json.specs.Data.{Data, Items, null}
use Rattle.serde_json.specs.Find.{get}

-- ---- the state after a message

abbrev pub is_shutdown : RequestView → Bool
is_shutdown shutdown = true
is_shutdown request = false

-- A client that comes says what it can do.
abbrev pub phase_begun : RequestView → Phase
phase_begun (initialize client settings) = Running client
phase_begun request = Fresh

-- How far a client has come after a request.
abbrev pub phase_after : Phase → RequestView → Phase
phase_after Fresh request = phase_begun request
phase_after (Running client) request = if is_shutdown request then ShutDown else Running client
phase_after ShutDown request = ShutDown

-- The text of a document after changes, if it is known then.
abbrev pub changed_by : List Opened → List ℕ → Option Items → Option (List ℕ)
changed_by ds uri None = None
changed_by ds uri (Some given) = changed_text (text_in ds uri) given

-- The documents after a notice, which has the whole text of one, or changes of it.
abbrev pub documents_after : List Opened → RequestView → List Opened
documents_after ds (opens uri text) = opened uri text ds
documents_after ds (changes uri given) = known uri (changed_by ds uri given) ds
documents_after ds (closes uri) = closed uri ds
documents_after ds request = ds

-- A notice counts while the server is in use.
abbrev pub documents_in : Phase → List Opened → RequestView → List Opened
documents_in (Running client) ds request = documents_after ds request
documents_in Fresh ds request = ds
documents_in ShutDown ds request = ds

-- The state after a request, and after a notice.
abbrev pub asked_state : Map → State → RequestView → State
asked_state words s request = record {
  phase = phase_after s.phase request;
  chosen = chosen_after words s.chosen (settings_asked s.phase request);
  documents = s.documents;
}

abbrev pub noted_state : Map → State → RequestView → State
noted_state words s request = record {
  phase = s.phase;
  chosen = chosen_after words s.chosen (settings_noted s.phase request);
  documents = documents_in s.phase s.documents request;
}

abbrev pub state_by : Option Data → Map → State → RequestView → State
state_by (Some id) words s request = asked_state words s request
state_by None words s request = noted_state words s request

abbrev pub id_of : Data → Option Data
id_of message = get (codes "id") message

abbrev pub state_after : Map → State → Data → State
state_after words s message = state_by (id_of message) words s (request_of message)

-- ---- what is told after a message

abbrev pub published : Data → Data
published marks = notice_data (codes "textDocument/publishDiagnostics") marks

abbrev pub unknown_marks : List ℕ → List ℕ → Data
unknown_marks uri words
    = marks_data uri (list_of (mark_data 1 (codes "UnknownText") words (range_data 0 0 0) ∷ []))

-- Where a text is not known, one mark at its start says so, in some words.
abbrev pub IsUnknown : List ℕ → Data → Type 0
IsUnknown uri marks = (words : List ℕ) × (marks ≡ unknown_marks uri words)

-- The notice of the marks of a document with a text.
abbrev pub IsMarked : Map → List ℕ → List ℕ → Data → Type 0
IsMarked bus_map uri text v = (marks : Data)
    × AreMarks bus_map uri (text_of bus_map.profile (cleaned text)) marks × (v ≡ published marks)

-- The marks of a document, by its text if that is known.
abbrev pub AreToldOf : Map → List ℕ → Option (List ℕ) → List Data → Type 0
AreToldOf bus_map uri (Some text) vs = (v : Data) × IsMarked bus_map uri text v × (vs ≡ v ∷ [])
AreToldOf bus_map uri None vs
    = (marks : Data) × IsUnknown uri marks × (vs ≡ published marks ∷ [])

-- The marks of all documents, in their order.
unfoldable pub AreToldOfAll : Map → List Opened → List Data → Type 0
AreToldOfAll bus_map [] vs = vs ≡ []
AreToldOfAll bus_map (d ∷ ds) vs = (v : Data) × (rest : List Data)
    × IsMarked bus_map d.0 d.1 v × AreToldOfAll bus_map ds rest × (vs ≡ v ∷ rest)

-- ---- what is told after settings

-- A text is shown, in some words.
abbrev pub IsShown : Data → Type 0
IsShown v
    = (text : List ℕ) × (v ≡ notice_data (codes "window/showMessage") (shown_data text))

-- On the map that is chosen then the marks of all documents are told; a wrong value is told.
abbrev pub AreToldOn : Option Map → List Opened → List Data → Type 0
AreToldOn (Some bus_map) ds vs = AreToldOfAll bus_map ds vs
AreToldOn None ds vs = (v : Data) × IsShown v × (vs ≡ v ∷ [])

abbrev pub AreSet : Map → List Opened → Option SettingsView → List Data → Type 0
AreSet words ds None vs = vs ≡ []
AreSet words ds (Some s) vs = AreToldOn (chosen_map words s) ds vs

-- ---- what is told after a notice

-- After a text was told or changed its marks are, and after its end that there are none.
abbrev pub AreTold : Map → Map → List Opened → RequestView → List Data → Type 0
AreTold words bus_map ds (opens uri text) vs = AreToldOf bus_map uri (Some text) vs
AreTold words bus_map ds (changes uri given) vs
    = AreToldOf bus_map uri (changed_by ds uri given) vs
AreTold words bus_map ds (closes uri) vs = vs ≡ published (marks_data uri (list_of [])) ∷ []
AreTold words bus_map ds (configures settings) vs = AreSet words ds settings vs
AreTold words bus_map ds request vs = vs ≡ []

abbrev pub AreToldIn : Map → Map → Phase → List Opened → RequestView → List Data → Type 0
AreToldIn words bus_map (Running client) ds request vs = AreTold words bus_map ds request vs
AreToldIn words bus_map Fresh ds request vs = vs ≡ []
AreToldIn words bus_map ShutDown ds request vs = vs ≡ []

abbrev pub has_method : Data → Bool
has_method message = is_some (get (codes "method") message)

-- A message with an `id` is an answer.
abbrev pub is_answer : Data → Bool
is_answer message = not (has_method message) && (is_some (get (codes "result") message)
    || is_some (get (codes "error") message))

-- Where a client begins with a wrong setting, that is told behind the answer.
abbrev pub AreShownIf : Bool → List Data → Type 0
AreShownIf true vs = (v : Data) × IsShown v × (vs ≡ v ∷ [])
AreShownIf false vs = vs ≡ []

-- One answer to a request, which has its id; none to an answer.
abbrev pub AreReplies : Bool → Map → State → Data → RequestView → List Data → Type 0
AreReplies true words s id request vs = vs ≡ []
AreReplies false words s id request vs = (v : Data) × (told : List Data)
    × IsReply words s id request v
    × AreShownIf (is_wrong words (settings_asked s.phase request)) told × (vs ≡ v ∷ told)

-- A message that is neither a request nor a notice fails without an id.
abbrev pub AreRefused : Failure → List Data → Type 0
AreRefused failure vs = (v : Data) × IsFailure null failure v × (vs ≡ v ∷ [])

abbrev pub AreNotices : Bool → Map → State → RequestView → List Data → Type 0
AreNotices true words s request vs
    = AreToldIn words (map_in words s.chosen) s.phase s.documents request vs
AreNotices false words s request vs = AreRefused NoRequest vs

abbrev pub AreAnswersBy : Option Data → Map → State → Data → List Data → Type 0
AreAnswersBy (Some id) words s message vs
    = AreReplies (is_answer message) words s id (request_of message) vs
AreAnswersBy None words s message vs
    = AreNotices (has_method message) words s (request_of message) vs

-- What is told after a message, in this order.
abbrev pub AreAnswers : Map → State → Data → List Data → Type 0
AreAnswers words s message vs = AreAnswersBy (id_of message) words s message vs

-- A body that is no JSON is refused.
abbrev pub AreAnswersTo : Map → State → Option Data → List Data → Type 0
AreAnswersTo words s None vs = AreRefused NotJson vs
AreAnswersTo words s (Some message) vs = AreAnswers words s message vs

-- ---- the end

abbrev pub is_exit : RequestView → Bool
is_exit exit = true
is_exit request = false

-- The status is 0 after `shutdown`, and 1 without.
abbrev pub status_in : Phase → ℕ
status_in ShutDown = 0
status_in Fresh = 1
status_in (Running client) = 1

-- The exit status that a message asks for, if it asks for the end.
abbrev pub end_of : State → Data → Option ℕ
end_of s message = if is_exit (request_of message) then Some (status_in s.phase) else None

-- ---- what a server does with a body: its state then, what it tells, and whether it ends

abbrev pub DoesUnless : Option ℕ → Map → State → Data → State → List Data → Option ℕ → Type 0
DoesUnless (Some status) words s message t vs end
    = (t ≡ s) × (vs ≡ []) × (end ≡ Some status)
DoesUnless None words s message t vs end
    = (t ≡ state_after words s message) × AreAnswers words s message vs × (end ≡ None)

abbrev pub Does : Map → State → Option Data → State → List Data → Option ℕ → Type 0
Does words s None t vs end = (t ≡ s) × AreAnswersTo words s None vs × (end ≡ None)
Does words s (Some message) t vs end
    = DoesUnless (end_of s message) words s message t vs end
