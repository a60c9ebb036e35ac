-- Items of a row: a place, and what it is given or compared with. Source: mos65.
use Rattle.std.specs.Prelude.{ℕ, ◌+◌, List, [], ◌∷◌}
use Rattle.t65_reader.specs.declared.item.StringPlace.{StringPlace}
use Rattle.t65_reader.specs.declared.item.StringPlace.TheVariants.{InMemory, InInput, InOutput}
use Rattle.t65_reader.specs.declared.row.Item.{Item}
use Rattle.t65_reader.specs.declared.row.Relation.{Relation}
use Rattle.t65_reader.specs.declared.row.Relation.TheVariants.{Equal}
use Rattle.t65_reader.specs.declared.row.Target.{Target}
use Rattle.t65_reader.specs.declared.row.Target.TheVariants as place
use Rattle.t65_values.specs.declared.expression.Value.{Value}

abbrev pub item : Target → Relation → Value → Item
item place relation value = record { place = place; relation = relation; value = value }

abbrev pub equals : Target → Value → Item
equals place value = item place Equal value

-- Where the bytes of a string stand.
abbrev pub place_in : StringPlace → ℕ → Target
place_in InMemory index = place.Byte index
place_in InInput index = place.Input
place_in InOutput index = place.Output index

-- An item of each value, at places in order.
abbrev pub value_items : StringPlace → ℕ → List Value → List Item
value_items at index [] = []
value_items at index (value ∷ values)
    = equals (place_in at index) value ∷ value_items at (index + 1) values
