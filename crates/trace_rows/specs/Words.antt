-- Numbers, columns and places in a row. Source: mos65.
use Rattle.std.specs.Prelude.{ℕ, ◌-◌, ◌==◌, if◌then◌else◌, List, [], ◌∷◌, ◌++◌, Option, None, Some, length, decimal, codes}
use Rattle.formatting.specs.Padding.{blanks, padded}
use Rattle.trace_rows.specs.declared.lines.SourceLine.{SourceLine}
use Rattle.trace_rows.specs.declared.sites.Sites.{Sites}
use Rattle.trace_rows.specs.declared.words.SiteColumns.{SiteColumns}
use Rattle.trace_rows.specs.Sites.{label_near, line_at}

-- A number in decimal, with blanks before it up to a width.
unfoldable pub count_text : ℕ → ℕ → List ℕ
count_text width number = blanks (width - length (decimal number)) ++ decimal number

-- How far an address is above its label: `+4`, and nothing for 0.
abbrev pub distance_text : ℕ → List ℕ
distance_text distance = if distance == 0 then [] else 43 ∷ decimal distance

-- A row with a label and a distance, after two blanks and no further left than a column.
unfoldable pub with_label : ℕ → Option (List ℕ × ℕ) → List ℕ → List ℕ
with_label column None row = row
with_label column (Some near) row
    = padded column (row ++ codes "  ") ++ near.0 ++ distance_text near.1

-- A row with the number of a line after the name of its file, if that is shown, and a colon, likewise.
unfoldable pub with_line : ℕ → Option SourceLine → List ℕ → List ℕ
with_line column None row = row
with_line column (Some line) row
    = padded column (row ++ codes "  ") ++ line.file.items ++ codes ":" ++ decimal line.number

-- A row with the label and the line of an address, as far as the source has them.
unfoldable pub with_site : SiteColumns → Sites → ℕ → List ℕ → List ℕ
with_site columns sites address row = with_line columns.line (line_at sites address)
    (with_label columns.label (label_near sites address) row)
