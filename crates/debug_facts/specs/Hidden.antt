-- At which addresses debug information has lines of which none is shown. Source: mos65.
use Rattle.std.specs.Prelude.{◌≡◌, ℕ, ◌<◌, ◌&&◌, not, Bool, true, false, is_some, List, get_or, length, Option, Some, None}
use Rattle.debug_records.specs.Info.{Info, Table, record_at}
use Rattle.debug_records.specs.Rows.{clear_rows, rows_of, shown_at}
use Rattle.debug_records.specs.declared.row.Row.{Row}

-- One of some rows has the address, and none of those that are shown.
abbrev pub is_hidden : List Row → List Row → ℕ → Bool
is_hidden rows clear address
    = is_some (shown_at rows address) && not (is_some (shown_at clear address))

-- A cell where that is so.
abbrev pub cell_if : Bool → Option ℕ
cell_if true = Some 0
cell_if false = None

pub record AreHiddenAmong (rows clear : List Row) (cells : List (Option ℕ)) : Type 0 where
  pub size : length cells ≡ 65536
  pub each : (address : ℕ) → address < 65536
      → get_or cells address None ≡ cell_if (is_hidden rows clear address)

-- Shown are rows that are told apart from others.
abbrev pub AreHidden : Info → List (Option ℕ) → Type 0
AreHidden info cells = AreHiddenAmong (rows_of info) (clear_rows info (rows_of info)) cells

-- ---- by tables of a row that has each address, and of the one that is shown there

abbrev pub hidden_cell : Option Row → Option Row → Option ℕ
hidden_cell found shown = cell_if (is_some found && not (is_some shown))

-- The cells of the first addresses, so many of them.
pub record AreCells (found shown : Table Row) (count : ℕ) (cells : List (Option ℕ)) : Type 0 where
  pub size : length cells ≡ count
  pub each : (address : ℕ) → address < count → get_or cells address None
      ≡ hidden_cell (record_at found address) (record_at shown address)
