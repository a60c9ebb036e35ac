-- Which label and which line of the source an address belongs to, by the tables of a source.
-- Source: mos65.
use Rattle.std.specs.Prelude.{◌≡◌, ℕ, zero, suc, ◌+◌, ◌-◌, ◌%◌, ◌<◌, ◌==◌, ◌&&◌, nat_le, not, ℤ, pos, negsuc, Bool, true, false, is_none, is_some, if◌then◌else◌, List, [], ◌∷◌, ◌++◌, Option, None, Some, length, map, position, slice_get, slice_index, slice_set, take}
use Rattle.std.specs.List.{flat_map}
use Rattle.std.specs.Option.{option_map, option_or}
use Rattle.source_map.specs.Names.{named_numbers}
use Rattle.assembler.specs.Assembly.{AssemblyView}
use Rattle.model.specs.Image.{cell_at}
use Rattle.source_map.specs.Lines.{PlacesView}
use Rattle.trace_rows.specs.SourceLines.{Listed, lines_by, lines_in}
use Rattle.trace_rows.specs.declared.lines.SourceLine.{SourceLine}
use Rattle.trace_rows.specs.declared.sites.Label.{Label}
use Rattle.trace_rows.specs.declared.sites.Sites.{Sites}

-- A table has one more than an index, or 0 where there is none.
abbrev pub index_of : ℕ → Option ℕ
index_of zero = None
index_of (suc index) = Some index

abbrev pub index_at : List ℕ → ℕ → Option ℕ
index_at table address = index_of (slice_index table address)

abbrev pub row_by : {Row : Type 0} → List Row → Option ℕ → Option Row
row_by rows None = None
row_by rows (Some index) = slice_get rows index

-- The label that an address belongs to.
abbrev pub label_at : Sites → ℕ → Option Label
label_at sites address = row_by sites.labels.items (index_at sites.label_of.items address)

-- A label, and how far above it an address is. $0000 comes after $FFFF.
abbrev pub distance_from : ℕ → Label → List ℕ × ℕ
distance_from address label = (label.text.items, (address + 65536 - label.address) % 65536)

abbrev pub label_near : Sites → ℕ → Option (List ℕ × ℕ)
label_near sites address = option_map (distance_from address) (label_at sites address)

-- The line that begins at an address.
abbrev pub line_at : Sites → ℕ → Option SourceLine
line_at sites address = row_by sites.lines.items (index_at sites.line_of.items address)

-- ---- the labels and the tables of a source

-- A name of a source, and the address that it stands for.
pub record Labelled : Type 0 where
  pub text : List ℕ
  pub address : ℕ

abbrev pub labelled : Label → Labelled
labelled label = record { text = label.text.items; address = label.address }

-- A name stands for an address if its number is one at which the image has a byte, and the address
-- has no name yet.
abbrev pub name_if_free : List (Option ℕ) → (ℕ → Option ℕ) → List ℕ → ℤ → List Labelled
name_if_free image place text (pos n)
    = if nat_le n 65535 && is_some (cell_at image n) && is_none (place n)
    then record { text = text; address = n } ∷ [] else []
name_if_free image place text (negsuc n) = []

-- A name with its number, and whether it is a label.
abbrev pub Numbered : Type 0
Numbered = (List ℕ × ℤ) × Bool

abbrev pub is_wanted : Bool → Bool → Bool
is_wanted true is_label = is_label
is_wanted false is_label = not is_label

abbrev pub name_of : List (Option ℕ) → (ℕ → Option ℕ) → Bool → Numbered → List Labelled
name_of image place labels name
    = if is_wanted labels name.1 then name_if_free image place name.0.0 name.0.1 else []

-- The labels among some names, or those that are none, in the order of their definition: as far as
-- they stand for an address that has no name yet.
unfoldable pub names_of : List (Option ℕ) → (ℕ → Option ℕ) → Bool → List Numbered → List Labelled
names_of image place labels names = flat_map (name_of image place labels) names

-- A table tells of each of the 65,536 addresses an index, or that there is none.
pub record IsTable (table : List ℕ) (place : ℕ → Option ℕ) : Type 0 where
  pub size : length table ≡ 65536
  pub rows : (address : ℕ) → address < 65536 → index_at table address ≡ place address

-- A table with a number put at an address where nothing stands.
abbrev pub put_if_none : List ℕ → ℕ → ℕ → List ℕ
put_if_none table address number
    = if slice_index table address == 0 then slice_set table address number else table

-- The index of the first row that has an address. A table has no room for an index above
-- 4,294,967,294, so rows after so many are not found.
unfoldable pub first_at : List ℕ → ℕ → Option ℕ
first_at addresses address = position (λ a. a == address) (take 4294967295 addresses)

-- What an address has; or else, if the image has a byte there, what the address below has.
unfoldable pub or_below : List (Option ℕ) → (ℕ → Option ℕ) → ℕ → Option ℕ
or_below image place zero = place 0
or_below image place (suc address) = option_or (place (suc address))
    (if is_some (cell_at image (suc address)) then or_below image place address else None)

abbrev pub addresses_of : List Labelled → List ℕ
addresses_of names = map (λ name. name.address) names

abbrev pub line_addresses : List Listed → List ℕ
line_addresses lines = map (λ line. line.address) lines

-- ---- names by their address

-- No address has a name yet.
abbrev pub nowhere : ℕ → Option ℕ
nowhere address = None

-- The labels of an assembled source.
abbrev pub labels_in : AssemblyView → List Labelled
labels_in assembly = names_of assembly.image nowhere true (named_numbers assembly)

-- The index of the label that an address belongs to: of the first that stands there, or otherwise
-- of the nearest one below, if the image has a byte at the address and at each one between.
abbrev pub label_place : AssemblyView → ℕ → Option ℕ
label_place assembly = or_below assembly.image (first_at (addresses_of (labels_in assembly)))

-- The labels, and then the definitions that stand where no label's bytes are.
abbrev pub names_in : AssemblyView → List Labelled
names_in assembly = labels_in assembly
    ++ names_of assembly.image (label_place assembly) false (named_numbers assembly)

-- The index of the name that an address belongs to: of its label, or where it has none of the first
-- definition that stands there, or otherwise of the nearest one below, likewise.
abbrev pub label_for : AssemblyView → ℕ → Option ℕ
label_for assembly = or_below assembly.image
    (λ address. option_or (label_place assembly address)
    (first_at (addresses_of (names_in assembly)) address))

-- The names of an assembly and a table of those that addresses belong to; none without an assembly.
abbrev pub AreLabels : Option AssemblyView → List Labelled → List ℕ → Type 0
AreLabels None labels table = (labels ≡ []) × (table ≡ [])
AreLabels (Some assembly) labels table
    = (labels ≡ names_in assembly) × IsTable table (label_for assembly)

-- The index of the first line that begins at an address.
abbrev pub line_for : AssemblyView → ℕ → Option ℕ
line_for assembly = first_at (line_addresses (lines_in assembly))

-- The index of the first line that is shown for bytes that begin at an address.
abbrev pub line_by_places : PlacesView → ℕ → Option ℕ
line_by_places places = first_at (line_addresses (lines_by places))
