-- The lines that are shown of a name: that which defines it, with the comments above. Source: mos65.
use Rattle.std.specs.Prelude.{ℕ, zero, suc, ◌-◌, ◌==◌, if◌then◌else◌, Bool, List, Option, Some, None}
use Rattle.std.specs.List.{find}
use Rattle.lsp_answers.specs.Texts.{TextView}
use Rattle.lsp_messages.specs.TextPlaces.{lines_between}
use Rattle.model.specs.Token.{begins}
use Rattle.name_uses.specs.Picked.{is_picked}
use Rattle.name_uses.specs.Uses.{Use}
use Rattle.name_uses.specs.declared.picks.Part.TheVariants.{Definitions}
use Rattle.source_notes.specs.Lines.{line_of, line_or_none, without_blanks}

-- A line has a comment alone: it begins with `;`.
abbrev pub is_comment : List ℕ → Bool
is_comment line = begins (λ b. b == 59) (without_blanks line)

-- How many lines stand before the comments that stand one below another above a line, which has so
-- many lines before it.
unfoldable pub above : List (List ℕ) → ℕ → ℕ
above lines zero = zero
above lines (suc before) = if is_comment (line_or_none (line_of lines (suc before)))
    then above lines before else suc before

abbrev pub line_by : Option Use → ℕ → ℕ
line_by None other = other
line_by (Some u) other = u.line

-- The number of the first line that defines a name, or another number where none does.
abbrev pub line_defining : List Use → List ℕ → ℕ → ℕ
line_defining uses name other = line_by (find (is_picked Definitions name) uses) other

-- So many lines stand before the line that defines a name; before the line of a use where none does.
abbrev pub before_name : TextView → Use → ℕ
before_name t u = line_defining t.uses u.text u.line - 1

-- That line with the comments above it, from a text as its client has it.
abbrev pub name_lines : List ℕ → TextView → Use → List ℕ
name_lines written t u
    = lines_between written (above t.lines (before_name t u)) (before_name t u)
