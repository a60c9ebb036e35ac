-- The fields of messages. Source: Language Server Protocol 3.17.
use Rattle.std.specs.Prelude.{ℕ, List, codes, Option, Some, None, option_and_then}
use Rattle.json_messages.specs.Fields.{number_at, text_at}
use Rattle.serde_json.specs.Data.{Data, Items}
use Rattle.serde_json.specs.Find.{as_array, pointer}

abbrev pub uri_of : Data → Option (List ℕ)
uri_of message = text_at (codes "/params/textDocument/uri") message

-- The numbers at two paths, if both are there.
abbrev pub both_of : Option ℕ → Option ℕ → Option (ℕ × ℕ)
both_of (Some first) (Some second) = Some (first, second)
both_of first second = None

abbrev pub numbers_at : List ℕ → List ℕ → Data → Option (ℕ × ℕ)
numbers_at first second message = both_of (number_at first message) (number_at second message)

-- A position: a line and a column, both from 0.
abbrev pub position_of : Data → Option (ℕ × ℕ)
position_of message = numbers_at (codes "/params/position/line")
    (codes "/params/position/character") message

-- The lines in which a range begins and ends.
abbrev pub lines_of : Data → Option (ℕ × ℕ)
lines_of message = numbers_at (codes "/params/range/start/line")
    (codes "/params/range/end/line") message

-- The changes of a text, if there is a list of them.
abbrev pub changes_in : Data → Option Items
changes_in message = option_and_then as_array (pointer (codes "/params/contentChanges") message)
