-- A list that is made one value after another.
use Rattle.std.specs.Prelude.{◌≡◌, IfOk, List, map}
use Rattle.json_messages.specs.declared.value_list.ValueList.{ValueList}
use Rattle.serde_json.specs.Data.{Data}
use Rattle.serde_json.specs.View.{view}

-- It has these values, if memory did not run out.
abbrev pub HasValues : List Data → ValueList → Type 0
HasValues ds list = IfOk list.built (λ vs. map view vs.items ≡ ds)
