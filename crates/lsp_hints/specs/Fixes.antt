-- The changes that an editor offers for faults. Source: Language Server Protocol 3.17, "Code Action
-- Request"; for which faults, mos65.
use Rattle.std.specs.Prelude.{◌≡◌, ℕ, ◌+◌, ◌-◌, max, min, if◌then◌else◌, Bool, List, [], ◌∷◌, ◌++◌, codes, drop, Option, Some, None}
use Rattle.std.specs.List.{flat_map}
use Rattle.std.specs.Str.Lossy.{utf8_lossy}
use Rattle.lsp_answers.specs.Kinds.{is_unused_name, lacks_mark}
use Rattle.lsp_answers.specs.Texts.{TextView, line_at, range_in}
use Rattle.lsp_hints.specs.Branches.{far_of, far_title, far_words, operand_in}
use Rattle.lsp_hints.specs.Hints.{is_between}
use Rattle.lsp_hints.specs.Operations.{begins_with, code_size, colon_of}
use Rattle.lsp_hints.specs.declared.branches.Far.{Far}
use Rattle.lsp_messages.specs.Columns.{most}
use Rattle.json_messages.specs.Values.{list_of, object_of, word}
use Rattle.lsp_messages.specs.Values.{changes_data, edit_data}
use Rattle.fault_notes.specs.Given.{told_faults_of}
use Rattle.model.specs.State.{Map}
use Rattle.serde_json.specs.Data.{Data}
use Rattle.lsp_answers.specs.Diagnostics.{AreDiagnostics}
use Rattle.lsp_answers.specs.declared.kinds.Diagnostic.{Diagnostic}
use Rattle.source_notes.specs.RightWord.{right_of}

abbrev pub action_data : List ℕ → Data → Data
action_data title edit = object_of ((codes "edit", edit) ∷ (codes "kind", word (codes "quickfix"))
    ∷ (codes "title", word title) ∷ [])

abbrev pub title_of : List ℕ → List ℕ
title_of right = codes "write " ++ right

-- Words in place of bytes of a line: of so many from one on.
abbrev pub edit_of : TextView → ℕ → ℕ × ℕ → List ℕ → Data
edit_of t number place words
    = edit_data (utf8_lossy words) (range_in t number place.0 place.1)

abbrev pub change_data : List ℕ → TextView → ℕ → ℕ × ℕ → List ℕ → List ℕ → Data
change_data uri t number place words title = action_data (utf8_lossy title)
    (changes_data uri (list_of (edit_of t number place words ∷ [])))

-- ---- a word

abbrev pub word_by : Option (List ℕ) → Bool → ℕ → Option (ℕ × List ℕ)
word_by (Some right) lacks width = Some (width, right)
word_by None lacks width = if lacks then Some (0, codes "#") else None

-- The right word of a note in place of the bytes that are meant, or a `#` before a number that lacks
-- it.
abbrev pub word_of : Diagnostic → Option (ℕ × List ℕ)
word_of d = word_by (right_of d.note) (lacks_mark d.kind) d.note.width

abbrev pub word_fix : List ℕ → TextView → Diagnostic → ℕ → List ℕ → Data
word_fix uri t d width word
    = change_data uri t (max d.line 1) (d.note.start, width) word (title_of word)

-- ---- a branch that does not reach its target

-- From where it starts to where its operand ends.
abbrev pub far_place : Far → ℕ × ℕ
far_place far = (far.start, min (far.from + far.width) most - far.start)

abbrev pub far_fix : List ℕ → TextView → ℕ → Far → Data
far_fix uri t number far = change_data uri t number (far_place far)
    (far_words (line_at t number) far) (far_title (line_at t number) far)

-- ---- a name that no expression uses

-- Behind the `:` of a label, or before the comment of a line with `=`.
abbrev pub definition_end : List ℕ → ℕ
definition_end line = if begins_with 58 (drop (colon_of line) line) then colon_of line + 1
    else code_size line

abbrev pub unused_place : List ℕ → ℕ → ℕ × ℕ
unused_place line start = (start, definition_end line - start)

-- The bytes of the definition of a name that no expression uses.
abbrev pub unused_of : List ℕ → Diagnostic → Option (ℕ × ℕ)
unused_of line d = if is_unused_name d.kind then Some (unused_place line d.note.start) else None

abbrev pub unused_title : List ℕ → Diagnostic → List ℕ
unused_title line d = codes "remove " ++ operand_in line d.note.start d.note.width

abbrev pub unused_fix : List ℕ → TextView → Diagnostic → ℕ × ℕ → Data
unused_fix uri t d place = change_data uri t (max d.line 1) place []
    (unused_title (line_at t (max d.line 1)) d)

-- ---- which changes there are

abbrev pub unused_fixes : List ℕ → TextView → Diagnostic → Option (ℕ × ℕ) → List Data
unused_fixes uri t d None = []
unused_fixes uri t d (Some place) = unused_fix uri t d place ∷ []

abbrev pub fixes_by : List ℕ → TextView → Diagnostic → Option (ℕ × List ℕ) → Option Far
    → List Data
fixes_by uri t d (Some word) far = word_fix uri t d word.0 word.1 ∷ []
fixes_by uri t d None (Some far) = far_fix uri t (max d.line 1) far ∷ []
fixes_by uri t d None None
    = unused_fixes uri t d (unused_of (line_at t (max d.line 1)) d)

-- The change for a fault or a warning, if there is one.
abbrev pub fixes_of : List ℕ → TextView → Diagnostic → List Data
fixes_of uri t d = fixes_by uri t d (word_of d)
    (far_of t.profile (line_at t (max d.line 1)) d)

-- Its line is between the first and the last of those that are asked for, counted from 0.
abbrev pub fixes_between : List ℕ → TextView → ℕ × ℕ → Diagnostic → List Data
fixes_between uri t between d
    = if is_between between (d.line - 1) then fixes_of uri t d else []

-- The changes for what `check` tells of a source between two lines, in its order.
abbrev pub AreFixes : Map → List ℕ → TextView → ℕ × ℕ → Data → Type 0
AreFixes bus_map uri t between v = (ds : List Diagnostic)
    × AreDiagnostics bus_map t.source (told_faults_of bus_map t.source) ds
    × (v ≡ list_of (flat_map (fixes_between uri t between) ds))
