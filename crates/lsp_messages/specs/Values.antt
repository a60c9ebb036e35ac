-- The values of answers. The members of an object stand in the order of their names. Source:
-- Language Server Protocol 3.17, "Range", "Location", "TextEdit", "WorkspaceEdit",
-- "DocumentHighlight", "Prepare Rename Request", "Hover", "CompletionItem", "DocumentSymbol",
-- "SymbolInformation", "Diagnostic", "PublishDiagnosticsParams", "ShowMessageParams".
use Rattle.std.specs.Prelude.{ℕ, List, [], ◌∷◌, codes}
use Rattle.json_messages.specs.Values.{count, object_of, word}
use Rattle.serde_json.specs.Data.{Data}

-- ---- places

abbrev pub position_data : ℕ → ℕ → Data
position_data line character
    = object_of ((codes "character", count character) ∷ (codes "line", count line) ∷ [])

-- Within a line.
abbrev pub range_data : ℕ → ℕ → ℕ → Data
range_data line from to = object_of ((codes "end", position_data line to)
    ∷ (codes "start", position_data line from) ∷ [])

abbrev pub location_data : List ℕ → Data → Data
location_data uri range = object_of ((codes "range", range) ∷ (codes "uri", word uri) ∷ [])

-- ---- what stands in answers

abbrev pub edit_data : List ℕ → Data → Data
edit_data text range = object_of ((codes "newText", word text) ∷ (codes "range", range) ∷ [])

-- The changes of one document.
abbrev pub changes_data : List ℕ → Data → Data
changes_data uri edits = object_of ((codes "changes", object_of ((uri, edits) ∷ [])) ∷ [])

abbrev pub highlight_data : ℕ → Data → Data
highlight_data kind range = object_of ((codes "kind", count kind) ∷ (codes "range", range) ∷ [])

-- A name that may get another one.
abbrev pub ready_data : List ℕ → Data → Data
ready_data name range
    = object_of ((codes "placeholder", word name) ∷ (codes "range", range) ∷ [])

-- What is said, in a form: `plaintext` or `markdown`.
abbrev pub hover_data : List ℕ → List ℕ → Data → Data
hover_data form words range = object_of ((
  codes "contents",
  object_of ((codes "kind", word form) ∷ (codes "value", word words) ∷ []),
) ∷ (codes "range", range) ∷ [])

abbrev pub item_data : List ℕ → ℕ → List ℕ → List ℕ → Data
item_data label kind detail place = object_of ((codes "detail", word detail)
    ∷ (codes "kind", count kind) ∷ (codes "label", word label)
    ∷ (codes "sortText", word place) ∷ [])

-- A name of a document.
abbrev pub symbol_data : ℕ → List ℕ → Data → Data → Data
symbol_data kind name range selected = object_of ((codes "kind", count kind)
    ∷ (codes "name", word name) ∷ (codes "range", range) ∷ (codes "selectionRange", selected) ∷ [])

-- A name of some document.
abbrev pub found_symbol_data : ℕ → List ℕ → Data → Data
found_symbol_data kind name place = object_of ((codes "kind", count kind)
    ∷ (codes "location", place) ∷ (codes "name", word name) ∷ [])

-- ---- marks

abbrev pub mark_data : ℕ → List ℕ → List ℕ → Data → Data
mark_data severity code words range = object_of ((codes "code", word code)
    ∷ (codes "message", word words) ∷ (codes "range", range)
    ∷ (codes "severity", count severity) ∷ (codes "source", word (codes "mos65")) ∷ [])

abbrev pub marks_data : List ℕ → Data → Data
marks_data uri marks = object_of ((codes "diagnostics", marks) ∷ (codes "uri", word uri) ∷ [])

-- ---- texts that an editor shows

-- As an error, which has the number 1.
abbrev pub shown_data : List ℕ → Data
shown_data words
    = object_of ((codes "message", word words) ∷ (codes "type", count 1) ∷ [])
