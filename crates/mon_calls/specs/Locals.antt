-- What `locals` shows: the calls of C that have led to a state, with their parameters and locals.
-- Source: mos65.
use Rattle.std.specs.Prelude.{◌≡◌, ℕ, ◌+◌, ◌-◌, ◌==◌, if◌then◌else◌, List, [], ◌∷◌, ◌++◌, codes, decimal, length, slice_get, Option, None, Some}
use Rattle.std.specs.List.{flat_map}
use Rattle.arguments.specs.Shown.{shown_bytes}
use Rattle.c_frames.specs.declared.locals.Auto.{Auto}
use Rattle.c_frames.specs.declared.locals.Local.{Local}
use Rattle.c_frames.specs.declared.walk.Frame.{Frame}
use Rattle.call_frames.specs.Found.{auto_of, autos_of, function_at}
use Rattle.call_frames.specs.Tables.{AreTablesIn, TablesView, frames_at, local_in}
use Rattle.call_frames.specs.Values.{bytes_text, is_number, value_text}
use Rattle.formatting.specs.Padding.{padded}
use Rattle.model.specs.State.{State}
use Rattle.model.specs.Text.{hex_address}
use Rattle.mon_texts.specs.declared.wording.TheConstants.{CALLED_FROM, PROGRAM_AT}
use Rattle.source_map.specs.Functions.{FunctionView, LocalView}
use Rattle.source_map.specs.Lines.{PlacesView}
use Rattle.mon_calls.specs.Spots.{spot_line}
use Rattle.mon_calls.specs.declared.wording.TheConstants.{NO_BASE, NO_FUNCTIONS, NO_LOCALS, NO_POINTER, NO_SUCH_CALL, NOT_IN_C}

-- A text that was found, or words if it has no byte.
abbrev pub if_any : List ℕ → List ℕ → List ℕ
if_any words found = if length found == 0 then words else found

-- ---- a local

abbrev pub number_text : List ℕ → Local → ℕ → List ℕ
number_text memory local size
    = if is_number size then codes "  " ++ value_text memory local else []

-- The bytes, and the number that they are.
abbrev pub sized_text : List ℕ → Local → ℕ → List ℕ
sized_text memory local size
    = bytes_text memory local.address size ++ number_text memory local size

abbrev pub held_by : List ℕ → Local → Option ℕ → List ℕ
held_by memory local None = codes " " ++ value_text memory local
held_by memory local (Some size) = sized_text memory local size

abbrev pub held_text : List ℕ → Local → List ℕ
held_text memory local = held_by memory local local.size

-- Its name, its address, and what it holds.
unfoldable pub local_row : List ℕ → List ℕ → Local → List ℕ
local_row memory name local = padded 14 (codes "  " ++ shown_bytes name) ++ codes "  "
    ++ hex_address local.address ++ codes " " ++ held_text memory local ++ codes "\n"

abbrev pub row_of : List ℕ → List ℕ → Option Local → List ℕ
row_of memory name None = []
row_of memory name (Some local) = local_row memory name local

-- ---- a call

abbrev pub local_text : TablesView → List ℕ → Frame → List Auto → LocalView → List ℕ
local_text t memory frame autos local
    = row_of memory local.name (local_in t frame autos (auto_of local))

abbrev pub rows_of : TablesView → List ℕ → Frame → FunctionView → List ℕ
rows_of t memory frame function
    = flat_map (local_text t memory frame (autos_of function.locals)) function.locals

abbrev pub body_text : TablesView → List ℕ → Frame → FunctionView → Option ℕ → List ℕ
body_text t memory frame function None = NO_BASE.now
body_text t memory frame function (Some base)
    = if_any NO_LOCALS.now (rows_of t memory frame function)

-- The first is where the program is.
abbrev pub words_of : ℕ → List ℕ
words_of number = if number == 1 then PROGRAM_AT.now else CALLED_FROM.now

abbrev pub head_text : PlacesView → ℕ → ℕ → List ℕ
head_text places number address
    = decimal number ++ codes " " ++ spot_line (words_of number) places address

abbrev pub function_text : TablesView → List ℕ → PlacesView → ℕ → Frame → Option FunctionView
    → List ℕ
function_text t memory places number frame None = []
function_text t memory places number frame (Some function) = head_text places number frame.address
    ++ body_text t memory frame function frame.base

-- A call of a number, if it is one of C.
abbrev pub frame_text : TablesView → List ℕ → PlacesView → ℕ → Frame → List ℕ
frame_text t memory places number frame = function_text t memory places number frame
    (function_at places.functions frame.address)

-- ---- calls

abbrev pub frames_from : TablesView → List ℕ → PlacesView → ℕ → List Frame → List ℕ
frames_from t memory places number [] = []
frames_from t memory places number (frame ∷ frames)
    = frame_text t memory places number frame ++ frames_from t memory places (number + 1) frames

abbrev pub nth_by : TablesView → List ℕ → PlacesView → ℕ → Option Frame → List ℕ
nth_by t memory places number None = []
nth_by t memory places number (Some frame) = frame_text t memory places number frame

-- The call of a number, counted from 1.
abbrev pub nth_text : TablesView → List ℕ → PlacesView → ℕ → List Frame → List ℕ
nth_text t memory places number frames
    = nth_by t memory places number (slice_get frames (number - 1))

abbrev pub asked_by : TablesView → List ℕ → PlacesView → List Frame → Option ℕ → List ℕ
asked_by t memory places frames None
    = if_any NOT_IN_C.now (frames_from t memory places 1 frames)
asked_by t memory places frames (Some number)
    = if_any NO_SUCH_CALL.now (nth_text t memory places number frames)

-- All, or that of a number.
abbrev pub asked_text : TablesView → State → PlacesView → Option ℕ → List ℕ
asked_text t state places number
    = asked_by t state.bus.memory places (frames_at t state.regs) number

-- What is not known of a program.
abbrev pub unknown_text : PlacesView → List ℕ
unknown_text places = if length places.functions == 0 then NO_FUNCTIONS.now else NO_POINTER.now

abbrev pub locals_text : State → PlacesView → Option ℕ → Option TablesView → List ℕ
locals_text state places number None = unknown_text places
locals_text state places number (Some t) = asked_text t state places number

-- A text grows by the calls of C at a state with their parameters and locals.
abbrev pub ShowsLocals : State → PlacesView → Option ℕ → List ℕ → List ℕ → Type 0
ShowsLocals state places number old new = (found : Option TablesView)
    × AreTablesIn state.bus.memory places found × (new ≡ old ++ locals_text state places number found)
