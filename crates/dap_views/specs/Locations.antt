-- Lines at which breakpoints can stand. Source: Debug Adapter Protocol 1.65, "BreakpointLocations
-- Request"; that only a line that begins at an address is one, mos65.
use Rattle.std.specs.Prelude.{ℕ, ◌≡◌, ◌&&◌, nat_le, Bool, if◌then◌else◌, List, [], ◌∷◌, Option, Some, None}
use Rattle.std.specs.List.{flat_map}
use Rattle.dap_messages.specs.SeenAnswers.{SeenAnswer, SeenItem, breakpoints_body, place_on}
use Rattle.dap_messages.specs.Counting.{own_line, shown_line}
use Rattle.dap_messages.specs.declared.counting.Counting.{Counting}
use Rattle.dap_views.specs.Files.{IsNamed}
use Rattle.dap_views.specs.Wanted.{is_from}
use Rattle.dap_views.specs.declared.source.FilePath.{FilePath}
use Rattle.source_map.specs.declared.rows.Row.{Row}

-- A line that a row begins is one, if it is from the first line to the last one.
abbrev pub is_location : ℕ → ℕ → ℕ → Row → Bool
is_location file first last row = is_from file first row && nat_le row.line last

abbrev pub location_of : Counting → ℕ → ℕ → ℕ → Row → List SeenItem
location_of counting file first last row = if is_location file first last row
    then place_on (shown_line counting row.line) ∷ [] else []

-- Of a file: one for each address at which a line begins.
abbrev pub locations_of : Counting → ℕ → ℕ → ℕ → List Row → List SeenItem
locations_of counting file first last rows = flat_map (location_of counting file first last) rows

abbrev pub own_locations : Counting → List Row → ℕ → Option ℕ → Option ℕ → List SeenItem
own_locations counting rows file line end
    = locations_of counting file (own_line counting line) (own_line counting end) rows

abbrev pub locations_in : Counting → List Row → Option ℕ → Option ℕ → Option ℕ → List SeenItem
locations_in counting rows (Some file) line end = own_locations counting rows file line end
locations_in counting rows None line end = []

-- Those of a file that is named.
abbrev pub AreLocations : Counting → List Row → List FilePath → List ℕ → Option ℕ → Option ℕ → SeenAnswer
    → Type 0
AreLocations counting rows files named line end v = (file : Option ℕ) × IsNamed files named file
    × (v ≡ breakpoints_body (locations_in counting rows file line end))
