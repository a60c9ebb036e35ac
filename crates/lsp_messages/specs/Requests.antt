-- What a message asks for. Source: Language Server Protocol 3.17.
use Rattle.std.specs.Prelude.{ℕ, bytes_eq, Bool, false, if◌then◌else◌, List, codes, Option, Some, None, unwrap_or}
use Rattle.serde_json.specs.Data.{Data, Items}
use Rattle.json_messages.specs.Fields.{flag_at, text_at}
use Rattle.lsp_messages.specs.Fields.{changes_in, lines_of, position_of, uri_of}
use Rattle.lsp_messages.specs.Settings.{SettingsView, begun_with, told_settings}
use Rattle.lsp_messages.specs.declared.asked.At.{At}
use Rattle.lsp_messages.specs.declared.asked.At.TheVariants as positions
use Rattle.lsp_messages.specs.declared.asked.Client.{Client}
use Rattle.lsp_messages.specs.declared.asked.Question.{Question}
use Rattle.lsp_messages.specs.declared.asked.Question.TheVariants as questions
use Rattle.lsp_messages.specs.declared.asked.Whole.{Whole}
use Rattle.lsp_messages.specs.declared.asked.Whole.TheVariants as documents
use Rattle.lsp_messages.specs.declared.asked.Within.{Within}
use Rattle.lsp_messages.specs.declared.asked.Within.TheVariants as ranges

-- A client says what it can do, and what it sets; it sets something else; a document has a text,
-- another one by changes, or none any more; something is asked of a document; names are searched for
-- by letters; the name at a position is to get another one, or gets it.
pub data RequestView : Type 0 where
  initialize : Client → Option SettingsView → RequestView
  configures : Option SettingsView → RequestView
  shutdown : RequestView
  exit : RequestView
  opens : List ℕ → List ℕ → RequestView
  changes : List ℕ → Option Items → RequestView
  closes : List ℕ → RequestView
  asks : List ℕ → Question → RequestView
  searches : List ℕ → RequestView
  prepares : List ℕ → ℕ → ℕ → RequestView
  renames : List ℕ → ℕ → ℕ → List ℕ → RequestView
  invalid : RequestView
  unknown : RequestView
  no_method : RequestView

-- ---- what a client can do, where it says so

-- The forms that a client lists for what is said at a place begin with the one that it likes best.
abbrev pub is_markdown : Option (List ℕ) → Bool
is_markdown None = false
is_markdown (Some form) = bytes_eq form (codes "markdown")

abbrev pub takes_markdown : Data → Bool
takes_markdown message = is_markdown
    (text_at (codes "/params/capabilities/textDocument/hover/contentFormat/0") message)

abbrev pub client_of : Data → Client
client_of message = record {
  prepares = unwrap_or (flag_at
      (codes "/params/capabilities/textDocument/rename/prepareSupport") message) false;
  markdown = takes_markdown message;
}

abbrev pub initialize_of : Data → RequestView
initialize_of message = initialize (client_of message) (begun_with message)

-- ---- by what a method needs: without it a message is invalid

abbrev pub open_by : Option (List ℕ) → Option (List ℕ) → RequestView
open_by (Some uri) (Some text) = opens uri text
open_by uri text = invalid

abbrev pub change_by : Option (List ℕ) → Data → RequestView
change_by (Some uri) message = changes uri (changes_in message)
change_by None message = invalid

abbrev pub change_of : Data → RequestView
change_of message = change_by (uri_of message) message

abbrev pub close_by : Option (List ℕ) → RequestView
close_by (Some uri) = closes uri
close_by None = invalid

abbrev pub search_by : Option (List ℕ) → RequestView
search_by (Some query) = searches query
search_by None = invalid

abbrev pub of_document : Whole → Option (List ℕ) → RequestView
of_document what (Some uri) = asks uri (questions.Whole what)
of_document what None = invalid

abbrev pub asked_of : Whole → Data → RequestView
asked_of what message = of_document what (uri_of message)

abbrev pub of_position : At → Option (List ℕ) → Option (ℕ × ℕ) → RequestView
of_position what (Some uri) (Some position)
    = asks uri (questions.At what position.0 position.1)
of_position what uri position = invalid

abbrev pub asked_at : At → Data → RequestView
asked_at what message = of_position what (uri_of message) (position_of message)

abbrev pub references_of : Data → RequestView
references_of message = asked_at (positions.References
    (unwrap_or (flag_at (codes "/params/context/includeDeclaration") message) false)) message

abbrev pub of_lines : Within → Option (List ℕ) → Option (ℕ × ℕ) → RequestView
of_lines what (Some uri) (Some lines) = asks uri (questions.Within what lines.0 lines.1)
of_lines what uri lines = invalid

abbrev pub asked_within : Within → Data → RequestView
asked_within what message = of_lines what (uri_of message) (lines_of message)

abbrev pub prepare_by : Option (List ℕ) → Option (ℕ × ℕ) → RequestView
prepare_by (Some uri) (Some position) = prepares uri position.0 position.1
prepare_by uri position = invalid

abbrev pub prepare_of : Data → RequestView
prepare_of message = prepare_by (uri_of message) (position_of message)

abbrev pub rename_by : Option (List ℕ) → Option (ℕ × ℕ) → Option (List ℕ) → RequestView
rename_by (Some uri) (Some position) (Some name) = renames uri position.0 position.1 name
rename_by uri position name = invalid

abbrev pub rename_of : Data → RequestView
rename_of message
    = rename_by (uri_of message) (position_of message) (text_at (codes "/params/newName") message)

-- ---- by the method

-- What is asked of a position.
unfoldable pub position_by_method : List ℕ → Data → RequestView
position_by_method method message =
    if bytes_eq method (codes "textDocument/hover") then asked_at positions.Hover message
    else if bytes_eq method (codes "textDocument/definition") then
    asked_at positions.Definition message
    else if bytes_eq method (codes "textDocument/references") then references_of message
    else if bytes_eq method (codes "textDocument/documentHighlight") then
    asked_at positions.Highlights message
    else if bytes_eq method (codes "textDocument/signatureHelp") then
    asked_at positions.Signatures message
    else if bytes_eq method (codes "textDocument/completion") then
    asked_at positions.Completion message
    else unknown

-- The colours of some lines, or what is asked of a position.
unfoldable pub colours_by_method : List ℕ → Data → RequestView
colours_by_method method message =
    if bytes_eq method (codes "textDocument/semanticTokens/range") then
    asked_within ranges.Colours message
    else position_by_method method message

-- What is asked of a document.
unfoldable pub question_by_method : List ℕ → Data → RequestView
question_by_method method message =
    if bytes_eq method (codes "textDocument/documentSymbol") then asked_of documents.Symbols message
    else if bytes_eq method (codes "textDocument/semanticTokens/full") then
    asked_of documents.Colours message
    else if bytes_eq method (codes "textDocument/foldingRange") then
    asked_of documents.Folds message
    else if bytes_eq method (codes "textDocument/inlayHint") then asked_within ranges.Hints message
    else if bytes_eq method (codes "textDocument/codeAction") then asked_within ranges.Fixes message
    else if bytes_eq method (codes "textDocument/prepareRename") then prepare_of message
    else if bytes_eq method (codes "textDocument/rename") then rename_of message
    else colours_by_method method message

abbrev pub by_method : List ℕ → Data → RequestView
by_method method message =
    if bytes_eq method (codes "initialize") then initialize_of message
    else if bytes_eq method (codes "shutdown") then shutdown
    else if bytes_eq method (codes "exit") then exit
    else if bytes_eq method (codes "textDocument/didOpen") then open_by (uri_of message)
    (text_at (codes "/params/textDocument/text") message)
    else if bytes_eq method (codes "textDocument/didChange") then change_of message
    else if bytes_eq method (codes "textDocument/didClose") then close_by (uri_of message)
    else if bytes_eq method (codes "workspace/didChangeConfiguration") then
    configures (told_settings message)
    else if bytes_eq method (codes "workspace/symbol") then
    search_by (text_at (codes "/params/query") message)
    else question_by_method method message

abbrev pub request_by : Option (List ℕ) → Data → RequestView
request_by (Some method) message = by_method method message
request_by None message = no_method

abbrev pub request_of : Data → RequestView
request_of message = request_by (text_at (codes "/method") message) message
