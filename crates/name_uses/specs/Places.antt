-- Names at a place. Source: mos65.
use Rattle.std.specs.Prelude.{ℕ, ◌-◌, ◌==◌, ◌&&◌, nat_le, Bool, length}
use Rattle.name_uses.specs.Uses.{Use}

-- A use has the byte at a column of a line, or ends there.
abbrev pub covers : ℕ → ℕ → Use → Bool
covers line column u = (u.line == line) && nat_le u.start column
    && nat_le (column - u.start) (length u.text)
