-- The state of a server: how far its client has come, the map that it has chosen, if it has, and the
-- documents that are open, each name once. Source: Language Server Protocol 3.17, "Server lifecycle",
-- "Text Document Synchronization".
use Rattle.std.specs.Prelude.{ℕ, not, Bool, List, [], ◌∷◌, ◌++◌, Option, None, Some, map, string_bytes}
use Rattle.std.specs.List.{filter, find}
use Rattle.std.specs.Option.{option_map}
use Rattle.std.specs.Str.{bytes_eq}
use Rattle.clean_source.specs.Cleaned.{cleaned}
use Rattle.word_lsp.specs.declared.documents.Document.{Document}
use Rattle.word_lsp.specs.declared.documents.Documents.{Documents}
use Rattle.word_lsp.specs.declared.phase.Phase.{Phase}
use Rattle.word_lsp.specs.declared.phase.Phase.TheVariants.{Fresh}
use Rattle.word_lsp.specs.declared.server.Server.{Server}
use Rattle.model.specs.State.{Map}

-- A document's name and its text.
abbrev pub Opened : Type 0
Opened = List ℕ × List ℕ

abbrev pub is_named : List ℕ → Opened → Bool
is_named uri d = bytes_eq d.0 uri

-- The documents with one closed, and with one opened or given another text.
abbrev pub closed : List ℕ → List Opened → List Opened
closed uri ds = filter (λ d. not (is_named uri d)) ds

abbrev pub opened : List ℕ → List ℕ → List Opened → List Opened
opened uri text ds = closed uri ds ++ (uri, text) ∷ []

-- The documents with the text of one, if it is known. One whose text is not known is not open.
abbrev pub known : List ℕ → Option (List ℕ) → List Opened → List Opened
known uri None ds = closed uri ds
known uri (Some text) ds = opened uri text ds

-- The text of a document, if it is open.
abbrev pub text_in : List Opened → List ℕ → Option (List ℕ)
text_in ds uri = option_map (λ d. d.1) (find (is_named uri) ds)

abbrev pub written_by : Option (List ℕ) → List ℕ
written_by None = []
written_by (Some text) = text

-- The text of a document as its client has it; an empty one where it is not open.
abbrev pub written_in : List Opened → List ℕ → List ℕ
written_in ds uri = written_by (text_in ds uri)

abbrev pub source_by : Option (List ℕ) → List ℕ
source_by None = []
source_by (Some text) = cleaned text

-- The source that is read in the place of the text of a document; an empty one where it is not open.
abbrev pub source_in : List Opened → List ℕ → List ℕ
source_in ds uri = source_by (text_in ds uri)

pub record State : Type 0 where
  pub phase : Phase
  pub chosen : Option Map
  pub documents : List Opened

-- Nothing was asked yet.
abbrev pub start : State
start = record { phase = Fresh; chosen = None; documents = [] }

-- ---- without where the texts lie in memory

abbrev pub document_view : Document → Opened
document_view d = (string_bytes d.uri, d.text.items)

abbrev pub documents_view : Documents → List Opened
documents_view ds = map document_view ds.all.items

abbrev pub server_view : Server → State
server_view s = record {
  phase = s.phase;
  chosen = s.chosen;
  documents = documents_view s.documents;
}
