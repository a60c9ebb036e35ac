-- How a client counts lines and columns, and what it can be told. Source: Debug Adapter Protocol
-- 1.65, "Initialize Request": `linesStartAt1` and `columnsStartAt1` are true where they are missing,
-- `supportsInvalidatedEvent` is not.
use Rattle.std.specs.Prelude.{ℕ, ◌+◌, ◌-◌, nat_lt, Bool, true, false, if◌then◌else◌, List, codes, Option, Some, None, unwrap_or}
use Rattle.json_messages.specs.Fields.{flag_at}
use Rattle.dap_messages.specs.declared.counting.Counting.{Counting}
use Rattle.serde_json.specs.Data.{Data}

abbrev pub flag_or_true : List ℕ → Data → Bool
flag_or_true path message = unwrap_or (flag_at path message) true

abbrev pub counting_of : Data → Counting
counting_of request = record {
  lines_start_at_1 = flag_or_true (codes "/arguments/linesStartAt1") request;
  columns_start_at_1 = flag_or_true (codes "/arguments/columnsStartAt1") request;
  can_invalidate = unwrap_or (flag_at (codes "/arguments/supportsInvalidatedEvent") request)
      false;
}

-- The number of a line that is counted from 1.
abbrev pub shown_line : Counting → ℕ → ℕ
shown_line counting line = if counting.lines_start_at_1 then line else line - 1

abbrev pub first_column : Counting → ℕ
first_column counting = if counting.columns_start_at_1 then 1 else 0

-- No source has a line of this number, as it has at most 1,048,576 bytes and a line with a byte has
-- two.
abbrev pub no_line : ℕ
no_line = 1000000

-- The line of a number that a client names, counted from 1.
abbrev pub own_line : Counting → Option ℕ → ℕ
own_line counting None = no_line
own_line counting (Some line) = if nat_lt line 999999
    then (if counting.lines_start_at_1 then line else line + 1) else no_line
