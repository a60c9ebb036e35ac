-- The place that a word of `run`, `trace` or `page` names. Source: mos65.
use Rattle.std.specs.Prelude.{ℕ, List, Option, Some, None, Result, Ok, Err}
use Rattle.std.specs.Option.{option_or}
use Rattle.loading.specs.Place.{front_of, moved, named_address, place_by}
use Rattle.model.specs.Names.{Definitions, number_in}
use Rattle.mon_line_parts.specs.SourceLines.{after_line, own_line}
use Rattle.source_map.specs.Lines.{PlacesView, address_from}
use Rattle.source_map.specs.Names.{address_of}

-- ---- names

-- The address of a name of debug information, if there is some.
abbrev pub debug_name : Option PlacesView → List ℕ → Option ℕ
debug_name None name = None
debug_name (Some places) name = address_of places.names name

-- The address of a name: of a source or a file of names, or else of debug information.
abbrev pub known_name : Definitions → Option PlacesView → List ℕ → Option ℕ
known_name names debug name
    = option_or (named_address (number_in names name)) (debug_name debug name)

-- ---- lines

-- The address of a line, or of the next one of its file that has bytes; and behind it nothing, or a
-- sign and a number.
abbrev pub line_sum : PlacesView → List ℕ → Option (ℕ × ℕ) → Option ℕ
line_sum places word None = None
line_sum places word (Some line)
    = moved (address_from places.sites line.0 line.1) (after_line word)

-- The same of the line of debug information that a word names, if it names one.
abbrev pub line_place : Option PlacesView → List ℕ → Option ℕ
line_place None word = None
line_place (Some places) word = line_sum places word (own_line places word)

-- ---- places

-- The address of a place: a name, an address or a sum of one and a number; or else a line.
abbrev pub place_known : Definitions → Option PlacesView → List ℕ → Option ℕ
place_known names debug word
    = option_or (place_by (known_name names debug (front_of word)) word) (line_place debug word)

-- 2 is the exit status where the word names no place.
abbrev pub or_status : Option ℕ → Result (Option ℕ) ℕ
or_status (Some address) = Ok (Some address)
or_status None = Err 2

-- No place where there is no word.
abbrev pub place_asked : Definitions → Option PlacesView → Option (List ℕ) → Result (Option ℕ) ℕ
place_asked names debug None = Ok None
place_asked names debug (Some word) = or_status (place_known names debug word)
