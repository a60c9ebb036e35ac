-- Names of addresses, and which of them a text or an address means. Source: mos65.
use Rattle.std.specs.Prelude.{ℕ, ℤ, pos, negsuc, ◌-◌, ◌==◌, ◌&&◌, nat_le, nat_lt, not, Bool, true, false, is_some, if◌then◌else◌, List, [], ◌∷◌, find, Option, Some, None}
use Rattle.std.specs.List.{flat_map, zip}
use Rattle.std.specs.Option.{option_map, option_or}
use Rattle.std.specs.Borrow.{Bor}
use Rattle.std.specs.Str.{byte, bytes_eq, str_eq_ignore_ascii_case}
use Rattle.model.specs.Image.{cell_at}
use Rattle.model.specs.Names.{Definitions}
use Rattle.assembler.specs.Assembly.{AssemblyView}
use Rattle.source_map.specs.declared.names.Name.{Name}

-- A name, its address, whether it is a label, which stands before `:`, and whether a byte of the
-- program stands at its address.
pub record Named : Type 0 where
  pub text : List ℕ
  pub address : ℕ
  pub is_label : Bool
  pub has_byte : Bool

abbrev pub named : Name → Named
named name = record {
  text = name.text.items;
  address = name.address;
  is_label = name.is_label;
  has_byte = name.has_byte;
}

-- ---- the names of an assembly

-- The name of a number that is an address.
abbrev pub name_of : List (Option ℕ) → List ℕ → ℤ → Bool → List Named
name_of image text (pos n) is_label = if nat_le n 65535 then record {
  text = text;
  address = n;
  is_label = is_label;
  has_byte = is_some (cell_at image n);
} ∷ [] else []
name_of image text (negsuc n) is_label = []

-- The names of an assembly with their numbers, and whether each is a label.
abbrev pub named_numbers : AssemblyView → List ((List ℕ × ℤ) × Bool)
named_numbers assembly = zip assembly.names assembly.labels

abbrev pub names_of : List (Option ℕ) → List ((List ℕ × ℤ) × Bool) → List Named
names_of image numbers = flat_map (λ d. name_of image d.0.0 d.0.1 d.1) numbers

-- The names whose numbers are addresses, in the order of their definition.
abbrev pub names_in : AssemblyView → List Named
names_in assembly = names_of assembly.image (named_numbers assembly)

-- ---- the names of an image

-- The name of a number that is an address; nothing is known of the byte there.
abbrev pub other_name : List ℕ → ℤ → List Named
other_name text (pos n) = if nat_le n 65535 then record {
  text = text;
  address = n;
  is_label = false;
  has_byte = false;
} ∷ [] else []
other_name text (negsuc n) = []

abbrev pub other_names : Definitions → List Named
other_names names = flat_map (λ d. other_name d.0 d.1) names

-- ---- an address by its name

abbrev pub has_text : List ℕ → Named → Bool
has_text text name = bytes_eq name.text text

-- A name that has a text but for capitals.
abbrev pub has_letters : List ℕ → Named → Bool
has_letters text name = str_eq_ignore_ascii_case name.text text

abbrev pub first_address : (Named → Bool) → List Named → Option ℕ
first_address passes names = option_map (λ name. name.address) (find passes names)

-- A name of C has `_` before its text.
abbrev pub has_c_text : List ℕ → Named → Bool
has_c_text text name = bytes_eq name.text (byte "_" ∷ text)

-- The address of a name: of the first that has this text, otherwise of the first that has it but
-- for capitals, otherwise of the first that has it behind `_`.
abbrev pub address_of : List Named → List ℕ → Option ℕ
address_of names text = option_or (first_address (has_text text) names)
    (option_or (first_address (has_letters text) names) (first_address (has_c_text text) names))

-- ---- a name by its address

abbrev pub is_label_at : ℕ → Named → Bool
is_label_at address name = name.is_label && (name.address == address)

abbrev pub is_name_at : ℕ → Named → Bool
is_name_at address name = name.address == address

abbrev pub first_text : (Named → Bool) → List Named → Option (List ℕ)
first_text passes names = option_map (λ name. name.text) (find passes names)

-- The first name of an address: a label if there is one, otherwise any name with that number.
abbrev pub name_at : List Named → ℕ → Option (List ℕ)
name_at names address
    = option_or (first_text (is_label_at address) names) (first_text (is_name_at address) names)

-- A name and how far above it an address is.
abbrev pub Near : Type 0
Near = Option (List ℕ × ℕ)

-- Whether something is nearer than what was found: at most 63 bytes away if nothing was.
abbrev pub is_nearer : ℕ → Near → Bool
is_nearer distance None = nat_lt distance 64
is_nearer distance (Some (text, least)) = nat_lt distance least

-- Whether a name of a byte of the program is a label, or else is none.
abbrev pub is_kind : Bool → Named → Bool
is_kind true name = name.has_byte && name.is_label
is_kind false name = name.has_byte && not name.is_label

-- The nearer one of what was found and a name: of a kind, at the address or below.
abbrev pub nearer : Bool → ℕ → Near → Named → Near
nearer is_label address found name =
    if is_kind is_label name && nat_le name.address address && is_nearer (address - name.address) found
    then Some (name.text, address - name.address) else found

abbrev pub nearest_from : Bool → ℕ → Near → List Named → Near
nearest_from is_label address found [] = found
nearest_from is_label address found (name ∷ names)
    = nearest_from is_label address (nearer is_label address found name) names

-- The label of the program's byte at an address or the nearest below it, at most 63 bytes away, and
-- how far away that is. Where there is none, another name likewise. Of names that are as near the
-- first counts.
abbrev pub name_near : List Named → ℕ → Near
name_near names address
    = option_or (nearest_from true address None names) (nearest_from false address None names)

-- What is found, without where it lies in memory.
abbrev pub near_view : Option (Bor (List ℕ) × ℕ) → Near
near_view found = option_map (λ p. (p.0.now, p.1)) found
