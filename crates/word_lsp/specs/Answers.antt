-- What is answered to requests. Source: Language Server Protocol 3.17; JSON-RPC 2.0.
use Rattle.std.specs.Prelude.{◌≡◌, ◌⊎◌, ℕ, List}
use Rattle.word_lsp.specs.Capabilities.{capabilities}
use Rattle.word_lsp.specs.Searches.{found_in_all}
use Rattle.word_lsp.specs.Shown.{colours_between, colours_in, completion_in, folds_in, hints_in, signatures_in}
use Rattle.word_lsp.specs.Settings.{map_in}
use Rattle.word_lsp.specs.State.{Opened, State, source_in, written_in}
use Rattle.word_lsp.specs.declared.phase.Phase.{Phase}
use Rattle.word_lsp.specs.declared.phase.Phase.TheVariants.{Fresh, Running, ShutDown}
use Rattle.lsp_answers.specs.Lists.{symbols_of}
use Rattle.lsp_answers.specs.Meanings.{meaning_of}
use Rattle.lsp_answers.specs.Names.{definition_at, highlights_at, references_at}
use Rattle.lsp_answers.specs.Renames.{IsKeptAt, IsReadyAt, IsRenameAt}
use Rattle.lsp_answers.specs.Texts.{TextView, name_at, text_of}
use Rattle.lsp_hints.specs.Fixes.{AreFixes}
use Rattle.lsp_messages.specs.Requests.{RequestView, initialize, shutdown, asks, searches, prepares, renames, invalid, unknown}
use Rattle.lsp_messages.specs.declared.asked.At.{At}
use Rattle.lsp_messages.specs.declared.asked.Client.{Client}
use Rattle.lsp_messages.specs.declared.asked.At.TheVariants as positions
use Rattle.lsp_messages.specs.declared.asked.Question.{Question}
use Rattle.lsp_messages.specs.declared.asked.Question.TheVariants as questions
use Rattle.lsp_messages.specs.declared.asked.Whole.{Whole}
use Rattle.lsp_messages.specs.declared.asked.Whole.TheVariants as documents
use Rattle.lsp_messages.specs.declared.asked.Within.{Within}
use Rattle.lsp_messages.specs.declared.asked.Within.TheVariants as ranges
use Rattle.lsp_messages.specs.Replies.{failure_data, result_data}
use Rattle.lsp_messages.specs.declared.replies.Failure.{Failure}
use Rattle.lsp_messages.specs.declared.replies.Failure.TheVariants as failures
use Rattle.model.specs.State.{Map}
use Rattle.serde_json.specs.Data.{Data, null}

-- A request fails, with some words.
abbrev pub IsFailure : Data → Failure → Data → Type 0
IsFailure id failure v = (words : List ℕ) × (v ≡ failure_data id failure words)

-- The answer's result is such.
abbrev pub IsResult : Data → (Data → Type 0) → Data → Type 0
IsResult id Such v = (given : Data) × Such given × (v ≡ result_data id given)

-- The text of a document: what is answered of it.
abbrev pub text_on : Map → List Opened → List ℕ → TextView
text_on bus_map ds uri = text_of bus_map.profile (source_in ds uri)

-- ---- the results of questions about a document with this name and this text

-- A client asks of a document, by its name, which has a text as the client has it.
pub record Asked : Type 0 where
  pub client : Client
  pub uri : List ℕ
  pub written : List ℕ

abbrev pub asked_by : Client → List Opened → List ℕ → Asked
asked_by client ds uri
    = record { client = client; uri = uri; written = written_in ds uri }

abbrev pub of_document : TextView → Whole → Data
of_document t documents.Symbols = symbols_of t
of_document t documents.Colours = colours_in t
of_document t documents.Folds = folds_in t

abbrev pub IsOfPosition : Asked → TextView → ℕ → ℕ → At → Data → Type 0
IsOfPosition asked t line character positions.Hover given
    = given ≡ meaning_of asked.client.markdown asked.written t line character
IsOfPosition asked t line character positions.Definition given
    = given ≡ definition_at asked.uri t line character
IsOfPosition asked t line character (positions.References declares) given
    = given ≡ references_at asked.uri t line character declares
IsOfPosition asked t line character positions.Highlights given
    = given ≡ highlights_at t line character
IsOfPosition asked t line character positions.Signatures given
    = given ≡ signatures_in t line character
IsOfPosition asked t line character positions.Completion given
    = given ≡ completion_in t line character

abbrev pub IsOfLines : Map → List ℕ → TextView → ℕ × ℕ → Within → Data → Type 0
IsOfLines bus_map uri t lines ranges.Hints given = given ≡ hints_in t lines
IsOfLines bus_map uri t lines ranges.Fixes given = AreFixes bus_map uri t lines given
IsOfLines bus_map uri t lines ranges.Colours given = given ≡ colours_between t lines

abbrev pub IsAnswerTo : Map → Asked → TextView → Question → Data → Type 0
IsAnswerTo bus_map asked t (questions.Whole what) given = given ≡ of_document t what
IsAnswerTo bus_map asked t (questions.At what line character) given
    = IsOfPosition asked t line character what given
IsAnswerTo bus_map asked t (questions.Within what from to) given
    = IsOfLines bus_map asked.uri t (from, to) what given

-- ---- the answers to requests

-- The name at a position, which may get another one, or why it may not.
abbrev pub IsPrepared : Map → TextView → ℕ → ℕ → Data → Data → Type 0
IsPrepared bus_map t line character id v =
    IsResult id (IsReadyAt bus_map t (name_at t line character)) v
    ⊎ (((name : List ℕ) → IsKeptAt bus_map t (name_at t line character) name)
    × IsFailure id failures.Refused v)

-- The changes of a rename of the name at a position, or why there are none.
abbrev pub IsRenamed : Map → List ℕ → TextView → ℕ → ℕ → List ℕ → Data → Data → Type 0
IsRenamed bus_map uri t line character name id v =
    IsResult id (IsRenameAt bus_map uri t (name_at t line character) name) v
    ⊎ (IsKeptAt bus_map t (name_at t line character) name × IsFailure id failures.Refused v)

-- The answer of a server that is in use.
abbrev pub IsRunning : Map → Client → List Opened → Data → RequestView → Data → Type 0
IsRunning bus_map client ds id (asks uri question) v = IsResult id
    (IsAnswerTo bus_map (asked_by client ds uri) (text_on bus_map ds uri) question) v
IsRunning bus_map client ds id (searches query) v
    = IsResult id (λ given. given ≡ found_in_all bus_map.profile query ds) v
IsRunning bus_map client ds id (prepares uri line character) v
    = IsPrepared bus_map (text_on bus_map ds uri) line character id v
IsRunning bus_map client ds id (renames uri line character name) v
    = IsRenamed bus_map uri (text_on bus_map ds uri) line character name id v
IsRunning bus_map client ds id shutdown v = v ≡ result_data id null
IsRunning bus_map client ds id invalid v = IsFailure id failures.WrongParameters v
IsRunning bus_map client ds id unknown v = IsFailure id failures.UnknownMethod v
IsRunning bus_map client ds id request v = IsFailure id failures.NoRequest v

-- The answer of a server of which nothing was asked: `initialize` comes first.
abbrev pub IsFresh : Data → RequestView → Data → Type 0
IsFresh id (initialize client settings) v = v ≡ result_data id (capabilities client)
IsFresh id request v = IsFailure id failures.NotInitialized v

-- The answer in each phase. After `shutdown` each request fails.
abbrev pub IsReplyIn : Map → Phase → List Opened → Data → RequestView → Data → Type 0
IsReplyIn bus_map Fresh ds id request v = IsFresh id request v
IsReplyIn bus_map (Running client) ds id request v = IsRunning bus_map client ds id request v
IsReplyIn bus_map ShutDown ds id request v = IsFailure id failures.NoRequest v

-- The answer to a request, on the map in use.
abbrev pub IsReply : Map → State → Data → RequestView → Data → Type 0
IsReply words s id request v
    = IsReplyIn (map_in words s.chosen) s.phase s.documents id request v
