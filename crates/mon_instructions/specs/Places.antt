-- Places in a text. Source: mos65.
use Rattle.std.specs.Prelude.{ℕ, ◌==◌, if◌then◌else◌, List, [], ◌∷◌, ◌++◌, Option, None, Some, decimal}
use Rattle.model.specs.Text.{hex_address}
use Rattle.source_map.specs.Names.{Named, Near, name_at, name_near}

-- How far an address is above its name: `+4`, and nothing for 0.
abbrev pub distance_text : ℕ → List ℕ
distance_text distance = if distance == 0 then [] else 43 ∷ decimal distance

-- A name after a blank, if there is one.
abbrev pub name_text : Option (List ℕ) → List ℕ
name_text None = []
name_text (Some name) = 32 ∷ name

-- The name that is near, otherwise the name of the number.
abbrev pub name_or : Near → Option (List ℕ) → List ℕ
name_or (Some near) name = 32 ∷ near.0 ++ distance_text near.1
name_or None name = name_text name

-- An address, and the name that stands there or nearest below it: `0206 start+6`.
unfoldable pub place_text : List Named → ℕ → List ℕ
place_text names address
    = hex_address address ++ name_or (name_near names address) (name_at names address)
