-- What the first pass finds of all lines.
use Rattle.std.specs.Prelude.{ℕ, ◌+◌, Bool, true, false, if◌then◌else◌, List, [], ◌∷◌, ◌++◌, Result, Ok}
use Rattle.model.specs.Layout.{◌>>>◌, Content, no_bytes, byte_list, word_list, word_list_high_first, code, Context, PlacedLine, PlacedAndContext, extent_of, layout_of}
use Rattle.line_parts.specs.KeptLines.{NumberedLine, numbered_line}
use Rattle.law_sources.specs.Judging.{on_line, ◌>>=◌}
use Rattle.model.specs.declared.source_fault.AsmFault.{AsmFault}
use Rattle.model.specs.declared.source_fault.AsmFaultKind.{AsmFaultKind}

-- Each line's address and byte count, and the lines that denote bytes, in the order of the lines.
pub record Found : Type 0 where
  pub extents : List (ℕ × ℕ)
  pub kept : List NumberedLine

abbrev pub nothing_found : Found
nothing_found = record { extents = []; kept = [] }

-- Whether a line of this content is kept for the second pass.
abbrev pub is_kept : Content → Bool
is_kept no_bytes = false
is_kept (byte_list items) = true
is_kept (word_list es) = true
is_kept (word_list_high_first es) = true
is_kept (code opcode mode e) = true

-- A line after those that were found.
abbrev pub with_line : ℕ → Found → PlacedLine → Found
with_line number found p = record {
  extents = found.extents ++ extent_of p ∷ [];
  kept = if is_kept p.content then found.kept ++ numbered_line number p ∷ [] else found.kept;
}

abbrev pub with_line_found : ℕ → Found → Result PlacedAndContext AsmFaultKind → Result (Found × Context) AsmFaultKind
with_line_found number found given = given >>> λ s. Ok (with_line number found s.0, s.1)

-- All lines from a line's number on, after those that were found and what these fix.
abbrev pub found_lines : ℕ → Context → Found → List (List ℕ) → Result (Found × Context) AsmFault
found_lines number before found [] = Ok (found, before)
found_lines number before found (line ∷ lines) =
    on_line number (with_line_found number found (layout_of before line))
    >>= λ p. found_lines (number + 1) p.1 p.0 lines
