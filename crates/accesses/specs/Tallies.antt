-- Visits and cycles by address. Source: mos65.
use Rattle.std.specs.Prelude.{ℕ, ◌+◌, ◌-◌, ◌^◌, List, replicate, slice_index, slice_set, min}
use Rattle.accesses.specs.declared.tally.Count.{Count}

-- The visits of each address, and the cycles that they took.
pub record Counts : Type 0 where
  pub visits : List ℕ
  pub cycles : List ℕ

-- The word hides its size, so that no proof computes it.
unfoldable pub no_counts : List ℕ
no_counts = replicate 65536 0

-- A number of 64 bits stays at the highest.
abbrev pub saturated : ℕ → ℕ
saturated number = min number (2 ^ 64 - 1)

abbrev pub raised : List ℕ → ℕ → ℕ → List ℕ
raised numbers address by = slice_set numbers address (saturated (slice_index numbers address + by))

-- One visit more, which took so many cycles.
abbrev pub noted : Counts → ℕ → ℕ → Counts
noted counts address cycles = record {
  visits = raised counts.visits address 1;
  cycles = raised counts.cycles address cycles;
}

abbrev pub count_at : Counts → ℕ → Count
count_at counts address = record {
  visits = slice_index counts.visits address;
  cycles = slice_index counts.cycles address;
}
