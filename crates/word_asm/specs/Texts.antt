-- The names of a source, and the places of its lines, as texts for other programs. Source: mos65;
-- `al C:0200 .NAME` is what the monitor of VICE reads.
use Rattle.std.specs.Prelude.{◌≡◌, ⊤, ℕ, ◌+◌, ◌==◌, nat_lt, ℤ, pos, negsuc, Bool, true, false, if◌then◌else◌, List, [], ◌∷◌, ◌++◌, codes, Option, Some, None}
use Rattle.std.specs.List.{flat_map}
use Rattle.std.specs.Fmt.{decimal}
use Rattle.model.specs.State.{Map}
use Rattle.model.specs.Text.{hex_address}
use Rattle.model.specs.Names.{Definitions}
use Rattle.model.specs.Listing.{address_text, name_row}
use Rattle.model.specs.Layout.{Context, PlacedLine, IsLaidOut, extents_of}
use Rattle.model.specs.Source.{first_context, read_lines}
use Rattle.word_asm.specs.declared.format.SymbolsFormat.{SymbolsFormat}
use Rattle.word_asm.specs.declared.format.SymbolsFormat.TheVariants.{Plain, Vice}

-- ---- names

abbrev pub vice_text : List ℕ → ℤ → List ℕ
vice_text name (pos n) = if nat_lt n 65536
    then codes "al C:" ++ hex_address n ++ codes " ." ++ name ++ 10 ∷ [] else []
vice_text name (negsuc n) = []

-- `al C:0200 .NAME`, if the number is an address; otherwise nothing.
abbrev pub vice_row : List ℕ × ℤ → List ℕ
vice_row d = vice_text d.0 d.1

-- A name's row: as in a listing, or for VICE.
abbrev pub row_in : SymbolsFormat → List ℕ × ℤ → List ℕ
row_in Plain d = name_row d
row_in Vice d = vice_row d

abbrev pub symbols_text : SymbolsFormat → Definitions → List ℕ
symbols_text format names = flat_map (row_in format) names

-- ---- places

-- The row of a line that has a byte: its address, how many bytes it has, and its number, with tabs
-- between them. Nothing for another line.
abbrev pub map_row : ℕ → ℕ × ℕ → List ℕ
map_row number place = if place.1 == 0 then []
    else address_text place.0 ++ 9 ∷ (decimal place.1 ++ 9 ∷ (decimal number ++ 10 ∷ []))

-- The rows of lines, counted from a number on.
abbrev pub map_text : ℕ → List (ℕ × ℕ) → List ℕ
map_text number [] = []
map_text number (p ∷ ps) = map_row number p ++ map_text (number + 1) ps

-- ---- of a source

-- The text of a source's names under a map: with the numbers that its layout gives them.
pub record IsSymbols (bus_map : Map) (source : List ℕ) (format : SymbolsFormat) (text : List ℕ)
    : Type 0 where
  pub placed : List PlacedLine
  pub all : Context
  pub laid : IsLaidOut (first_context bus_map.profile) (read_lines bus_map.profile source) placed all
  pub rows : text ≡ symbols_text format all.names

-- The text of the places of a source's lines under a map: those of the lines that are read.
pub record IsMap (bus_map : Map) (source text : List ℕ) : Type 0 where
  pub placed : List PlacedLine
  pub all : Context
  pub laid : IsLaidOut (first_context bus_map.profile) (read_lines bus_map.profile source) placed all
  pub rows : text ≡ map_text 1 (extents_of placed)

-- The names are there if they are asked for.
abbrev pub AreSymbols : Map → List ℕ → Option SymbolsFormat → Option (List ℕ) → Type 0
AreSymbols bus_map source (Some format) (Some text) = IsSymbols bus_map source format text
AreSymbols bus_map source (Some format) None = ⊥
AreSymbols bus_map source None (Some text) = ⊥
AreSymbols bus_map source None None = ⊤

-- The places are there if they are asked for.
abbrev pub IsMapAsked : Map → List ℕ → Bool → Option (List ℕ) → Type 0
IsMapAsked bus_map source true (Some text) = IsMap bus_map source text
IsMapAsked bus_map source true None = ⊥
IsMapAsked bus_map source false (Some text) = ⊥
IsMapAsked bus_map source false None = ⊤
