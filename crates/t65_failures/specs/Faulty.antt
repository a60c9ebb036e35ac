-- Why a row cannot be read, as text. Source: mos65.
use Rattle.std.specs.Prelude.{ℕ, ◌-◌, List, [], ◌++◌, Option, None, Some, codes, decimal, drop}
use Rattle.std.specs.List.{find}
use Rattle.std.specs.Option.{option_map}
use Rattle.formatting.specs.Padding.{blanks}
use Rattle.fault_notes.specs.Near.{is_near}
use Rattle.model.specs.Names.{Definitions}
use Rattle.t65_values.specs.FaultWords.{example_words, fault_words}
use Rattle.t65_values.specs.ValueText.{word_of}
use Rattle.t65_values.specs.Visible.{visible_text}
use Rattle.t65_values.specs.declared.fault.RowFaultKind.{RowFaultKind}
use Rattle.t65_values.specs.declared.fault.RowFaultKind.TheVariants.{UndefinedName}
use Rattle.t65_values.specs.declared.fault.TextFault.{TextFault}

-- The place of a fault in the file of rows.
abbrev pub faulty_place : List ℕ → TextFault → List ℕ
faulty_place rows fault = codes "mos65: " ++ visible_text rows ++ codes ":" ++ decimal fault.line
    ++ codes ":" ++ decimal fault.column ++ codes ": "

-- The first name of a source that is near a word, if there is one.
abbrev pub near_name : Definitions → List ℕ → Option (List ℕ)
near_name names word = option_map (λ d. d.0) (find (λ d. is_near d.0 word) names)

-- What is said of a name that is near one that the source does not define.
abbrev pub near_text : Option (List ℕ) → List ℕ
near_text None = []
near_text (Some name) = codes "; " ++ visible_text name ++ codes " is"

abbrev pub near_words : RowFaultKind → Definitions → List ℕ → List ℕ
near_words UndefinedName names word = near_text (near_name names word)
near_words kind names word = []

-- The word at a column, which is counted from 1.
abbrev pub word_at : List ℕ → ℕ → List ℕ
word_at line column = word_of (drop (column - 1) line)

-- What is wrong there, with the name that is near.
abbrev pub faulty_words : Definitions → RowFaultKind → List ℕ → List ℕ
faulty_words names kind word = fault_words kind ++ example_words kind
    ++ near_words kind names word ++ codes "\n"

-- A line, and a mark under a column, which is counted from 1. What stands before a fault is ASCII:
-- only a comment may have other characters, and the first one elsewhere is the fault.
abbrev pub marked_line : List ℕ → ℕ → List ℕ
marked_line line column
    = visible_text line ++ codes "\n" ++ blanks (column - 1) ++ codes "^\n"

-- Why a line is no row that is run on a source with these names.
abbrev pub faulty_text : Definitions → List ℕ → List ℕ → TextFault → List ℕ
faulty_text names rows line fault = faulty_place rows fault
    ++ faulty_words names fault.kind (word_at line fault.column)
    ++ marked_line line fault.column
