-- Where lines begin at which a client wants breakpoints. Source: Debug Adapter Protocol 1.65,
-- "SourceBreakpoint"; that a line at which none begins stands for the next, mos65.
use Rattle.std.specs.Prelude.{ℕ, ◌==◌, ◌&&◌, ◌||◌, nat_le, nat_lt, Bool, true, if◌then◌else◌, List, [], ◌∷◌, Option, Some, None}
use Rattle.source_map.specs.declared.rows.Row.{Row}

-- The number of a file in the tables of lines, which have no higher one than this.
abbrev pub file_number : ℕ → ℕ
file_number file = if nat_le file 4294967295 then file else 4294967295

-- Whether a row begins a line of a file, at a number or behind it.
abbrev pub is_from : ℕ → ℕ → Row → Bool
is_from file line row = row.begins_line && (row.file == file && nat_le line row.line)

-- Whether a row has a lower line than another one, or a lower address in this line.
abbrev pub is_before : Row → Option (ℕ × ℕ) → Bool
is_before row None = true
is_before row (Some best)
    = nat_lt row.line best.0 || (row.line == best.0 && nat_lt row.address best.1)

abbrev pub with_row : ℕ → ℕ → Option (ℕ × ℕ) → Row → Option (ℕ × ℕ)
with_row file line best row = if is_from file line row && is_before row best
    then Some (row.line, row.address) else best

abbrev pub row_from : ℕ → ℕ → Option (ℕ × ℕ) → List Row → Option (ℕ × ℕ)
row_from file line best [] = best
row_from file line best (row ∷ rows) = row_from file line (with_row file line best row) rows

-- The first line of a file that begins, at a number or behind it, and the lowest address at which it
-- does.
abbrev pub row_in : List Row → ℕ → ℕ → Option (ℕ × ℕ)
row_in rows file line = row_from file line None rows
