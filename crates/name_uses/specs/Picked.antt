-- The uses of one name. Source: mos65.
use Rattle.std.specs.Prelude.{ℕ, ◌&&◌, not, Bool, true, List}
use Rattle.std.specs.List.{filter}
use Rattle.std.specs.Str.{bytes_eq}
use Rattle.name_uses.specs.Uses.{Use}
use Rattle.name_uses.specs.declared.picks.Part.{Part}
use Rattle.name_uses.specs.declared.picks.Part.TheVariants.{All, Definitions, Others}

abbrev pub is_part : Part → Use → Bool
is_part All u = true
is_part Definitions u = u.defines
is_part Others u = not u.defines

abbrev pub is_picked : Part → List ℕ → Use → Bool
is_picked part name u = bytes_eq u.text name && is_part part u

-- Those of some uses that are of a name and are meant, in their order.
abbrev pub picked : Part → List ℕ → List Use → List Use
picked part name uses = filter (is_picked part name) uses
