-- What help says of each topic. Its words stand in the code, in the table `HELP`. Source: mos65.
use Rattle.std.specs.Prelude.{ℕ, List, [], map, slice_get}
use Rattle.std.specs.Borrow.{Bor}
use Rattle.std.specs.Option.{option_map_or}
use Rattle.mon_line_parts.specs.Topics.{place_of}
use Rattle.mon_line_parts.specs.declared.help.TheConstants.{HELP}
use Rattle.mon_line_parts.specs.declared.topic.Topic.{Topic}

-- How a line about a topic is written, what the line does, and an example.
abbrev pub HelpRow : Type 0
HelpRow = List ℕ × List ℕ × List ℕ

-- The same without where the words lie in memory.
abbrev pub help_view : Bor (List ℕ) × Bor (List ℕ) × Bor (List ℕ) → HelpRow
help_view row = (row.0.now, row.1.now, row.2.now)

-- A row for each topic.
unfoldable pub help_rows : List HelpRow
help_rows = map (λ row. (row.0.now, row.1.now, row.2.now)) HELP

abbrev pub form_of : Topic → List ℕ
form_of topic = option_map_or (λ row. row.0) (slice_get help_rows (place_of topic)) []

abbrev pub effect_of : Topic → List ℕ
effect_of topic = option_map_or (λ row. row.1) (slice_get help_rows (place_of topic)) []

abbrev pub example_of : Topic → List ℕ
example_of topic = option_map_or (λ row. row.2) (slice_get help_rows (place_of topic)) []
