-- Places with functions of C and lines. Source: mos65.
use Rattle.std.specs.Prelude.{ℕ, Bool, is_some, if◌then◌else◌, List, [], ◌++◌, codes, Option, None, Some}
use Rattle.arguments.specs.Shown.{shown_bytes}
use Rattle.call_frames.specs.Found.{function_at}
use Rattle.model.specs.State.{State}
use Rattle.model.specs.Text.{hex_address}
use Rattle.mon_instructions.specs.Instructions.{instruction_text}
use Rattle.mon_instructions.specs.Places.{place_text}
use Rattle.source_map.specs.Functions.{FunctionView}
use Rattle.source_map.specs.Lines.{PlacesView, line_words, row_at}
use Rattle.source_map.specs.Names.{Named}

abbrev pub named_by : List Named → ℕ → Option FunctionView → List ℕ
named_by names address None = place_text names address
named_by names address (Some function)
    = hex_address address ++ codes " " ++ shown_bytes function.name

-- An address with the function of C there, otherwise with the name that stands there or nearest
-- below it.
abbrev pub name_text : PlacesView → ℕ → List ℕ
name_text places address
    = named_by places.names address (function_at places.functions address)

-- The line that begins at an address. Of a source that is assembled names are enough.
abbrev pub line_text : PlacesView → ℕ → List ℕ
line_text places address = if places.is_whole then []
    else line_words places.sources (row_at places.lines address)

-- A place with the line that begins there: `8161 copy_name, bank.c:9`.
abbrev pub spot_text : PlacesView → ℕ → List ℕ
spot_text places address = name_text places address ++ line_text places address

abbrev pub spot_line : List ℕ → PlacesView → ℕ → List ℕ
spot_line words places address = words ++ spot_text places address ++ codes "\n"

abbrev pub is_in_function : PlacesView → ℕ → Bool
is_in_function places address = is_some (function_at places.functions address)

-- The instruction at an address that is not within a function of C.
abbrev pub code_text : State → PlacesView → ℕ → List ℕ
code_text state places address = if is_in_function places address then []
    else codes ": " ++ instruction_text state places.names address

-- Words, a place, and that instruction.
abbrev pub from_line : List ℕ → State → PlacesView → ℕ → List ℕ
from_line words state places address
    = words ++ spot_text places address ++ code_text state places address ++ codes "\n"
