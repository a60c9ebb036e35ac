-- The parameters and locals of a frame of C, from one state alone: those that are there. Source: Debug
-- Adapter Protocol 1.65, "Scopes Request", "Variables Request", "DataBreakpointInfo Request"; where
-- they are, `call_frames`.
use Rattle.std.specs.Prelude.{ℕ, ◌+◌, ◌==◌, ◌≡◌, nat_le, Bool, if◌then◌else◌, find, List, [], ◌∷◌, length, map, slice_get, zip, Option, Some, None, option_map, unwrap_or}
use Rattle.std.specs.List.{flat_map}
use Rattle.std.specs.Str.{bytes_eq}
use Rattle.std.specs.Str.Lossy.{utf8_lossy}
use Rattle.arguments.specs.Shown.{shown_bytes}
use Rattle.c_frames.specs.declared.locals.Local.{Local}
use Rattle.c_frames.specs.declared.walk.Frame.{Frame}
use Rattle.call_frames.specs.Found.{function_at}
use Rattle.call_frames.specs.Tables.{AreTablesIn, TablesView, frames_at, locals_at}
use Rattle.call_frames.specs.Values.{value_text}
use Rattle.dap_messages.specs.References.{range_of}
use Rattle.dap_messages.specs.SeenAnswers.{SeenAnswer, SeenItem, local_at, look_body, variables_body}
use Rattle.dap_messages.specs.declared.request.ByteRange.{ByteRange}
use Rattle.dap_messages.specs.declared.request.Page.{Page}
use Rattle.dap_messages.specs.declared.request.Scope.{Scope}
use Rattle.dap_messages.specs.declared.request.Scope.TheVariants as scope
use Rattle.dap_views.specs.Pages.{page_of}
use Rattle.dap_views.specs.Scopes.{variables_shown}
use Rattle.dap_views.specs.Watches.{data_by, data_shown}
use Rattle.dap_views.specs.declared.locals.FrameLocal.{FrameLocal}
use Rattle.model.specs.Session.{Session}
use Rattle.model.specs.State.{State}
use Rattle.mon_session.specs.declared.mon_state.MonState.{MonState}
use Rattle.source_map.specs.Functions.{FunctionView, LocalView}
use Rattle.source_map.specs.Lines.{PlacesView}

-- ---- a frame

-- The frame of a scope, if it is that of its locals.
abbrev pub frame_of : Option Scope → Option ℕ
frame_of (Some (scope.Locals frame)) = Some frame
frame_of other = None

-- The frame of C of a number: 1 is that of the first. A call at which the stack pointer is S has
-- pushed what stands from $00FF+S on, which is the number of its frame.
abbrev pub frame_numbered : List Frame → ℕ → Option Frame
frame_numbered frames id = if id == 1 then slice_get frames 0
    else find (λ frame. 255 + frame.s == id) frames

-- ---- its locals

-- A name, with where it is.
abbrev pub SeenLocal : Type 0
SeenLocal = List ℕ × Local

abbrev pub seen_local : FrameLocal → SeenLocal
seen_local local = (local.name.now, local.local)

-- One that is not there yet is left out.
abbrev pub named_if : LocalView → Option Local → List SeenLocal
named_if name None = []
named_if name (Some local) = (name.name, local) ∷ []

abbrev pub named_locals : List LocalView → List (Option Local) → List SeenLocal
named_locals names locals = flat_map (λ both. named_if both.0 both.1) (zip names locals)

abbrev pub in_function : TablesView → Frame → Option FunctionView → List SeenLocal
in_function t frame None = []
in_function t frame (Some function) = named_locals function.locals (locals_at t frame function)

abbrev pub in_frame : PlacesView → TablesView → Option Frame → List SeenLocal
in_frame places t None = []
in_frame places t (Some frame) = in_function t frame (function_at places.functions frame.address)

-- Where no function of C is known, or no software stack pointer, there are none.
abbrev pub locals_in : State → PlacesView → ℕ → Option TablesView → List SeenLocal
locals_in s places id None = []
locals_in s places id (Some t) = in_frame places t (frame_numbered (frames_at t s.regs) id)

-- Those of the frame of a number, at a state.
abbrev pub AreLocals : State → PlacesView → ℕ → List SeenLocal → Type 0
AreLocals s places id locals = (found : Option TablesView) × AreTablesIn s.bus.memory places found
    × (locals ≡ locals_in s places id found)

-- The first of a name.
abbrev pub has_name : List ℕ → SeenLocal → Bool
has_name name local = bytes_eq local.0 name

abbrev pub local_named : List ℕ → List SeenLocal → Option Local
local_named name locals = option_map (λ local. local.1) (find (has_name name) locals)

-- ---- what is shown

abbrev pub local_item : List ℕ → SeenLocal → SeenItem
local_item memory local = local_at (utf8_lossy (shown_bytes local.0)) local.1.address
    (utf8_lossy (value_text memory local.1))

-- Those that are asked for.
abbrev pub ShowsLocals : State → PlacesView → ℕ → Page → SeenAnswer → Type 0
ShowsLocals s places id asked v = (locals : List SeenLocal) × AreLocals s places id locals
    × (v ≡ variables_body (page_of asked (map (local_item s.bus.memory) locals)))

-- The variables of a scope: locals of a frame, or others.
abbrev pub ShowsBy : Option ℕ → Session → PlacesView → Option Scope → Page → SeenAnswer → Type 0
ShowsBy (Some frame) session places asked page v = ShowsLocals session.current places frame page v
ShowsBy None session places asked page v = v ≡ variables_shown session places.names asked page

abbrev pub ShowsVariables : Session → PlacesView → Option Scope → Page → SeenAnswer → Type 0
ShowsVariables session places asked page v = ShowsBy (frame_of asked) session places asked page v

-- ---- the scope of a frame

-- A frame that is not named has no number, and none has the number 0.
abbrev pub frame_number : Option ℕ → ℕ
frame_number (Some id) = if nat_le id 65535 then id else 0
frame_number None = 0

-- A frame has the scope if some of its locals are there.
abbrev pub scope_number : ℕ → List SeenLocal → Option ℕ
scope_number id [] = None
scope_number id (local ∷ locals) = Some id

abbrev pub HasLocals : State → PlacesView → ℕ → Option ℕ → Type 0
HasLocals s places id number = (locals : List SeenLocal) × AreLocals s places id locals
    × (number ≡ scope_number id locals)

-- ---- a look

-- What a local holds is shown where a client looks at its name.
abbrev pub local_look : List ℕ → Local → SeenAnswer
local_look memory local = look_body (Some local.address) (utf8_lossy (value_text memory local))

abbrev pub IsLocalLook : State → PlacesView → ℕ → List ℕ → Option SeenAnswer → Type 0
IsLocalLook s places id name found = (locals : List SeenLocal) × AreLocals s places id locals
    × (found ≡ option_map (local_look s.bus.memory) (local_named name locals))

-- ---- bytes that can be watched

-- All bytes of a local, where no number is named: one if it is not known how many those are.
abbrev pub count_of : Local → Option ℕ → ℕ
count_of local count = unwrap_or count (unwrap_or local.size 1)

abbrev pub local_range : Option ℕ → Option Local → Option ByteRange
local_range count None = None
local_range count (Some local) = range_of local.address (count_of local count)

abbrev pub IsLocalData : State → PlacesView → ℕ → List ℕ → Option ℕ → SeenAnswer → Type 0
IsLocalData s places id name count v = (locals : List SeenLocal) × AreLocals s places id locals
    × (v ≡ data_by (local_range count (local_named name locals)))

-- A name of a scope of locals is one of theirs, unless it is an address.
abbrev pub local_frame : Option Scope → Bool → Option ℕ
local_frame asked is_address = if is_address then None else frame_of asked

abbrev pub IsDataBy : Option ℕ → MonState → Option Scope → List ℕ → Option ℕ → Bool → SeenAnswer → Type 0
IsDataBy (Some frame) mon asked name count is_address v
    = IsLocalData mon.session.current mon.places frame name count v
IsDataBy None mon asked name count is_address v = v ≡ data_shown mon asked name count is_address

abbrev pub IsData : MonState → Option Scope → List ℕ → Option ℕ → Bool → SeenAnswer → Type 0
IsData mon asked name count is_address v
    = IsDataBy (local_frame asked is_address) mon asked name count is_address v
