-- A part of what a line asks for that is all of a text. Source: mos65.
use Rattle.std.specs.Prelude.{ℕ, Bool, if◌then◌else◌, List, [], Result, Ok, Err}
use Rattle.model.specs.declared.event.Setting.{Setting}
use Rattle.mon_line_parts.specs.Reading.{Reads, SeenFlaw, and_then, behind, is_empty, skip}
use Rattle.mon_line_parts.specs.Values.{PlacesView, bit_of, bytes_of, count_of}
use Rattle.mon_lines.specs.Parts.{address_at, tests_within, times_or, value_of}
use Rattle.mon_lines.specs.declared.command.Register.{Register}
use Rattle.mon_lines.specs.declared.command.Test.{Test}

-- Nothing is left behind what was read.
abbrev pub to_end : {X : Type 0} → Reads X → Result X SeenFlaw
to_end (Ok read) = if is_empty read.1 then Ok read.0 else Err (behind read.1)
to_end (Err why) = Err why

-- Tests with `and` between them. An empty text has none.
abbrev pub tests_in : PlacesView → ℕ → List ℕ → Result (List Test) SeenFlaw
tests_in places pc text = if is_empty text then Ok []
    else to_end (tests_within 5 places pc [] (skip text))

-- How often they have to hold: once, if the text is empty.
abbrev pub times_in : PlacesView → List ℕ → Result ℕ SeenFlaw
times_in places text = if is_empty text then Ok 1
    else to_end (and_then (count_of places (skip text)) times_or)

-- An address.
abbrev pub place_in : PlacesView → ℕ → List ℕ → Result ℕ SeenFlaw
place_in places pc text = to_end (address_at places pc (skip text))

-- The value of a register, that of a flag, and bytes.
abbrev pub setting_in : PlacesView → ℕ → Register → List ℕ → Result Setting SeenFlaw
setting_in places pc register text = to_end (value_of places pc register (skip text))

abbrev pub bit_in : PlacesView → List ℕ → Result Bool SeenFlaw
bit_in places text = to_end (bit_of places (skip text))

abbrev pub bytes_in : PlacesView → List ℕ → Result (List ℕ) SeenFlaw
bytes_in places text = to_end (bytes_of places (skip text))
