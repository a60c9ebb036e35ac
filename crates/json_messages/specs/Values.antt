-- JSON values. The members of an object stand in the order of their names. Source: RFC 8259.
use Rattle.std.specs.Prelude.{ℕ, Bool, List, [], ◌∷◌}
use Rattle.serde_json.specs.Data.{Data, array, boolean, number, unsigned, string, object, Members, no_members, member}
use Rattle.serde_json.specs.View.{items_of}

abbrev pub members : List (List ℕ × Data) → Members
members [] = no_members
members (row ∷ rows) = member row.0 row.1 (members rows)

abbrev pub object_of : List (List ℕ × Data) → Data
object_of rows = object (members rows)

abbrev pub list_of : List Data → Data
list_of ds = array (items_of ds)

abbrev pub word : List ℕ → Data
word text = string text

abbrev pub count : ℕ → Data
count n = number (unsigned n)

abbrev pub flag : Bool → Data
flag is_set = boolean is_set
