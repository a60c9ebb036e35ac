-- The names and the places of lines that the layout of all lines has found.
use Rattle.std.specs.Prelude.{ℕ, List, map}
use Rattle.model.specs.State.{Map}
use Rattle.model.specs.Names.{Definitions}
use Rattle.model.specs.AllFaults.{Found, fixed_by, found_lines, smallest}
use Rattle.model.specs.Layout.{extent_of}
use Rattle.model.specs.Source.{first_context, read_lines}

abbrev pub extent_found : Found → ℕ × ℕ
extent_found f = extent_of f.place

abbrev pub extents_found : List Found → List (ℕ × ℕ)
extents_found found = map extent_found found

abbrev pub names_found : Map → List ℕ → Definitions
names_found bus_map source
    = (fixed_by smallest (first_context bus_map.profile) (read_lines bus_map.profile source)).names

abbrev pub places_found : Map → List ℕ → List (ℕ × ℕ)
places_found bus_map source = extents_found
    (found_lines smallest (first_context bus_map.profile) (read_lines bus_map.profile source))
