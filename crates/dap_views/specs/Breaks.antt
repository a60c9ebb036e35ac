-- What lists of breakpoints do to a state of `mon`, and what is answered. Source: Debug Adapter
-- Protocol 1.65, "SetBreakpoints Request", "SetInstructionBreakpoints Request",
-- "SetFunctionBreakpoints Request"; mos65.
use Rattle.std.specs.Prelude.{ℕ, ◌≡◌, true, false, List, [], ◌∷◌, ◌++◌, map, Option, Some, None}
use Rattle.dap_desk.specs.Breaks.{all_cleared, all_set, place_of}
use Rattle.dap_messages.specs.SeenAnswers.{SeenAnswer, breakpoints_body}
use Rattle.dap_messages.specs.declared.counting.Counting.{Counting}
use Rattle.dap_messages.specs.declared.listed.AddressList.{AddressList}
use Rattle.dap_messages.specs.declared.listed.FileLines.{FileLines}
use Rattle.dap_messages.specs.declared.listed.FunctionList.{FunctionList}
use Rattle.dap_messages.specs.declared.listed.LineList.{LineList}
use Rattle.dap_messages.specs.declared.listed.Listed.{Listed}
use Rattle.dap_messages.specs.declared.listed.Placed.{Placed}
use Rattle.dap_messages.specs.declared.request.SourceBreakpoint.{SourceBreakpoint}
use Rattle.dap_views.specs.Answered.{answer_elsewhere, answers_of, placed_in, placed_of}
use Rattle.dap_views.specs.Files.{IsNamed}
use Rattle.dap_views.specs.Found.{AreStops, AreTold, Found, found_address, found_line, found_name}
use Rattle.dap_views.specs.declared.source.FilePath.{FilePath}
use Rattle.dap_views.specs.declared.wanted.List.{List as WantedList}
use Rattle.dap_views.specs.declared.wanted.Wanted.{Wanted}
use Rattle.mon_session.specs.declared.mon_state.MonState.{MonState}
use Rattle.mon_runs.specs.declared.breaks.Break.{Break}

-- ---- a list

-- All breakpoints of a list were looked for.
abbrev pub Finds : {W : Type 0} → (W → Found) → List W → WantedList → Type 0
Finds find listed list = AreTold find listed list.told.items
    × AreStops find listed list.stops.items

-- The breakpoints that stood somewhere are replaced by those that can be set of a list, of which the
-- first has this number; each is told of, and it is held where they stand.
abbrev pub SetsList : {W : Type 0} → (W → Found) → Counting → Option ℕ → ℕ → List W → List Placed
    → List Placed → MonState → MonState → SeenAnswer → Type 0
SetsList find counting file first listed before after old new v = (told : List Wanted)
    × (stops : List Break) × AreTold find listed told × AreStops find listed stops
    × (place_of new ≡ all_set stops (all_cleared before (place_of old)))
    × (after ≡ placed_of file first told)
    × (v ≡ breakpoints_body (answers_of new.session counting first told))

-- ---- breakpoints at lines, at addresses, and at names

-- Those at lines of a file are replaced, and those at lines of others stay.
abbrev pub SetsLines : Counting → FileLines → List Placed → List Placed → MonState → MonState
    → SeenAnswer → Type 0
SetsLines counting listed before after old new v = (placed : List Placed)
    × SetsList (found_line old.places old.session.current.regs.pc counting listed.file) counting
    (Some listed.file) listed.lines.first listed.lines.list.items
    (placed_in true listed.file before) placed old new v
    × (after ≡ placed_in false listed.file before ++ placed)

abbrev pub SetsAddresses : Counting → AddressList → List Placed → List Placed → MonState → MonState
    → SeenAnswer → Type 0
SetsAddresses counting listed before after old new v
    = SetsList (found_address old.places old.session.current.regs.pc) counting None listed.first
    listed.list.items before after old new v

abbrev pub SetsFunctions : Counting → FunctionList → List Placed → List Placed → MonState → MonState
    → SeenAnswer → Type 0
SetsFunctions counting listed before after old new v
    = SetsList (found_name old.places old.session.current.regs.pc) counting None listed.first
    listed.list.items before after old new v

-- Nothing is changed, and each breakpoint of a list is said not to be set.
abbrev pub SetsNone : List SourceBreakpoint → Listed → Listed → MonState → MonState → SeenAnswer → Type 0
SetsNone listed before after old new v = (after ≡ before) × (place_of new ≡ place_of old)
    × (v ≡ breakpoints_body (map answer_elsewhere listed))

-- What is held besides where breakpoints at lines stand: their list behind those before, and what was
-- held for addresses, names and watches, with the number of the next breakpoint.
abbrev pub HoldsLines : FileLines → Listed → Listed → Type 0
HoldsLines listed old new = (new.last_lines.items ≡ old.last_lines.items ++ listed ∷ [])
    × (new.last_addresses ≡ old.last_addresses) × (new.last_functions ≡ old.last_functions)
    × (new.last_bytes ≡ old.last_bytes) × (new.next ≡ old.next)

abbrev pub HoldsAddresses : AddressList → Listed → Listed → Type 0
HoldsAddresses listed old new = (new.last_addresses ≡ Some listed)
    × (new.last_lines ≡ old.last_lines) × (new.last_functions ≡ old.last_functions)
    × (new.last_bytes ≡ old.last_bytes) × (new.next ≡ old.next)

abbrev pub HoldsFunctions : FunctionList → Listed → Listed → Type 0
HoldsFunctions listed old new = (new.last_functions ≡ Some listed)
    × (new.last_lines ≡ old.last_lines) × (new.last_addresses ≡ old.last_addresses)
    × (new.last_bytes ≡ old.last_bytes) × (new.next ≡ old.next)

-- Those of a file that is named are set, and the list is held, with those for addresses, names and
-- watches. None is set if no file is named.
abbrev pub SetsNamed : Counting → Option ℕ → LineList → Listed → Listed → MonState → MonState
    → SeenAnswer → Type 0
SetsNamed counting (Some file) listed before after old new v
    = SetsLines counting (record { file = file; lines = listed }) before.lines.items
    after.lines.items old new v
    × HoldsLines (record { file = file; lines = listed }) before after
SetsNamed counting None listed before after old new v
    = SetsNone listed.list.items before after old new v

abbrev pub SetsSource : Counting → List FilePath → List ℕ → LineList → Listed → Listed → MonState
    → MonState → SeenAnswer → Type 0
SetsSource counting files named listed before after old new v = (file : Option ℕ)
    × IsNamed files named file × SetsNamed counting file listed before after old new v
