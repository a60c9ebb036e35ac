-- The marks of a source. Source: Language Server Protocol 3.17, "Diagnostic", "DiagnosticSeverity",
-- "PublishDiagnostics Notification"; what is marked is what `check` tells.
use Rattle.std.specs.Prelude.{◌≡◌, ℕ, max, if◌then◌else◌, List, map}
use Rattle.std.specs.Str.Lossy.{utf8_lossy}
use Rattle.lsp_answers.specs.Texts.{TextView, range_in}
use Rattle.json_messages.specs.Values.{list_of}
use Rattle.lsp_messages.specs.Values.{mark_data, marks_data}
use Rattle.fault_notes.specs.Given.{told_faults_of}
use Rattle.model.specs.State.{Map}
use Rattle.serde_json.specs.Data.{Data}
use Rattle.lsp_answers.specs.Diagnostics.{AreDiagnostics}
use Rattle.lsp_answers.specs.Kinds.{is_fault, name_of}
use Rattle.lsp_answers.specs.declared.kinds.Diagnostic.{Diagnostic}
use Rattle.lsp_answers.specs.declared.kinds.DiagnosticKind.{DiagnosticKind}

-- A fault is an error, and a warning a warning.
abbrev pub severity_of : DiagnosticKind → ℕ
severity_of kind = if is_fault kind then 1 else 2

-- A mark of what is found: the bytes of its line that are meant, and its words. What is of no line
-- is marked on the first one.
abbrev pub mark_of : TextView → Diagnostic → Data
mark_of t d = mark_data (severity_of d.kind) (name_of d.kind) (utf8_lossy d.note.words.items)
    (range_in t (max d.line 1) d.note.start d.note.width)

-- The marks of a document: one for each fault of its source, or for each warning where there is no
-- fault, in the order of `check`.
abbrev pub AreMarks : Map → List ℕ → TextView → Data → Type 0
AreMarks bus_map uri t v = (ds : List Diagnostic)
    × AreDiagnostics bus_map t.source (told_faults_of bus_map t.source) ds
    × (v ≡ marks_data uri (list_of (map (mark_of t) ds)))
