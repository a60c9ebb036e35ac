-- The names that debug information gives addresses. Source: mos65.
use Rattle.std.specs.Prelude.{ℕ, ℤ, pos, ◌&&◌, nat_le, nat_lt, Bool, is_some, if◌then◌else◌, List, [], ◌∷◌, ◌++◌, length, Option, Some, None}
use Rattle.std.specs.List.{list_all}
use Rattle.std.specs.Ordering.{int_eq}
use Rattle.debug_records.specs.Records.{Symbol}
use Rattle.model.specs.Image.{cell_at}
use Rattle.model.specs.Names.{Definitions, number_in}
use Rattle.names_files.specs.ImageNames.{is_name_byte}
use Rattle.names_files.specs.NamesFile.{addressed_name}
use Rattle.source_map.specs.Names.{Named}
use Rattle.source_map.specs.declared.debug_names.Naming.{Naming as HeldNaming}

-- The bytes of a program where it runs.
abbrev pub Bytes : Type 0
Bytes = List (Option ℕ)

-- A name that can be typed has 1 to 63 letters, digits, and `_ @ . :`.
abbrev pub is_typed : List ℕ → Bool
is_typed name = nat_lt 0 (length name) && nat_lt (length name) 64 && list_all is_name_byte name

-- Names so far, and the address of each text that was given.
pub record Naming : Type 0 where
  pub names : List Named
  pub given : Definitions

abbrev pub naming_view : HeldNaming → Naming
naming_view naming = record { names = naming.names; given = naming.given }

abbrev pub no_name : Naming
no_name = record { names = []; given = [] }

-- A text becomes the name of an address.
abbrev pub with_name : Bytes → Bool → ℕ → List ℕ → Naming → Naming
with_name image is_label address text naming = record {
  names = naming.names ++ record {
    text = text;
    address = address;
    is_label = is_label;
    has_byte = is_some (cell_at image address);
  } ∷ [];
  given = naming.given ++ (text, pos address) ∷ [];
}

-- A text is not given twice.
abbrev pub with_once : Option ℤ → Bytes → Bool → ℕ → List ℕ → Naming → Naming
with_once None image is_label address text naming = with_name image is_label address text naming
with_once (Some old) image is_label address text naming = naming

abbrev pub with_other : Bytes → Bool → ℕ → List ℕ → Naming → Naming
with_other image is_label address text naming
    = with_once (number_in naming.given text) image is_label address text naming

-- One that was given for another address is given with this one behind it: `loop:E150`.
abbrev pub with_text_if : Option ℤ → Bytes → Bool → ℕ → List ℕ → Naming → Naming
with_text_if None image is_label address text naming = with_name image is_label address text naming
with_text_if (Some old) image is_label address text naming = if int_eq old (pos address) then naming
    else with_other image is_label address (addressed_name text address) naming

abbrev pub with_text : Bytes → Bool → ℕ → List ℕ → Naming → Naming
with_text image is_label address text naming
    = with_text_if (number_in naming.given text) image is_label address text naming

-- A symbol gives its name to its value, if that is an address.
abbrev pub with_value : Bytes → Symbol → Option ℕ → Naming → Naming
with_value image symbol None naming = naming
with_value image symbol (Some value) naming = if nat_le value 65535 && is_typed symbol.name
    then with_text image symbol.is_label value symbol.name naming else naming

abbrev pub with_symbol : Bytes → Option Symbol → Naming → Naming
with_symbol image None naming = naming
with_symbol image (Some symbol) naming = with_value image symbol symbol.value naming

-- Symbols one after another, by their numbers.
abbrev pub named_by : Bytes → Naming → List (Option Symbol) → Naming
named_by image naming [] = naming
named_by image naming (symbol ∷ symbols) = named_by image (with_symbol image symbol naming) symbols

abbrev pub debug_names : Bytes → List (Option Symbol) → List Named
debug_names image symbols = (named_by image no_name symbols).names
