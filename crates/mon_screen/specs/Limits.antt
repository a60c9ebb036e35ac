-- Numbers in a range. Source: mos65.
use Rattle.std.specs.Prelude.{ℕ, min, nat_lt, if◌then◌else◌}

-- A number, or the nearest one from the least to the most.
abbrev pub limited : ℕ → ℕ → ℕ → ℕ
limited least most number = if nat_lt number least then least else min number most
