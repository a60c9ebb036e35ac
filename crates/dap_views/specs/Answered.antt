-- What is answered of breakpoints. Source: Debug Adapter Protocol 1.65, "Breakpoint"; mos65.
use Rattle.std.specs.Prelude.{ℕ, ◌==◌, nat_eq, not, filter, Bool, false, if◌then◌else◌, List, [], ◌∷◌, ◌++◌, map, slice_get, string_bytes, Option, Some, None, option_map}
use Rattle.std.specs.List.{list_all, list_any}
use Rattle.dap_views.specs.declared.listed.TheConstants.{NO_ROOM, OTHER_SOURCE}
use Rattle.dap_views.specs.declared.wanted.Wanted.{Wanted}
use Rattle.dap_messages.specs.SeenAnswers.{SeenItem, breakpoint_set, breakpoint_unset, data_unwatched}
use Rattle.dap_messages.specs.Counting.{shown_line}
use Rattle.dap_messages.specs.Messages.{next_number}
use Rattle.dap_messages.specs.declared.counting.Counting.{Counting}
use Rattle.dap_messages.specs.declared.listed.Placed.{Placed}
use Rattle.dap_messages.specs.declared.request.SourceBreakpoint.{SourceBreakpoint}
use Rattle.model.specs.Session.{Session}

-- ---- one breakpoint, of a number

-- Whether the session has a breakpoint at each of some addresses.
abbrev pub are_breaks : Session → List ℕ → Bool
are_breaks session addresses = list_all (λ address. list_any (nat_eq address) session.breaks) addresses

-- A breakpoint is set if the session has one at each of its addresses, and the first of them is told.
-- One that can stand nowhere is not set.
abbrev pub answer_by : Session → ℕ → Option ℕ → List ℕ → List ℕ → Option ℕ → SeenItem
answer_by session id line words addresses (Some address) = if are_breaks session addresses
    then breakpoint_set id address line else breakpoint_unset id line NO_ROOM.now
answer_by session id line words addresses None = breakpoint_unset id line words

abbrev pub answer_of : Session → Counting → ℕ → Wanted → SeenItem
answer_of session counting id wanted = answer_by session id
    (option_map (shown_line counting) wanted.line) (string_bytes wanted.words)
    wanted.addresses.items (slice_get wanted.addresses.items 0)

-- One of another source is not set.
abbrev pub answer_elsewhere : SourceBreakpoint → SeenItem
answer_elsewhere wanted = data_unwatched OTHER_SOURCE.now

-- ---- a list, of which the first has this number

unfoldable pub answers_of : Session → Counting → ℕ → List Wanted → List SeenItem
answers_of session counting id [] = []
answers_of session counting id (wanted ∷ rest) = answer_of session counting id wanted
    ∷ answers_of session counting (next_number id) rest

-- Where one stands: at each of its addresses.
abbrev pub one_placed : Option ℕ → ℕ → ℕ → Placed
one_placed file id address = record { id = id; address = address; file = file }

abbrev pub placed_at : Option ℕ → ℕ → List ℕ → List Placed
placed_at file id addresses = map (one_placed file id) addresses

-- Of which file they are lines is held, if they are lines.
unfoldable pub placed_of : Option ℕ → ℕ → List Wanted → List Placed
placed_of file id [] = []
placed_of file id (wanted ∷ rest) = placed_at file id wanted.addresses.items
    ++ placed_of file (next_number id) rest

-- ---- those at lines of a file, and all others

abbrev pub is_of : ℕ → Option ℕ → Bool
is_of file None = false
is_of file (Some other) = other == file

abbrev pub is_in : Bool → ℕ → Placed → Bool
is_in inside file placed = if inside then is_of file placed.file else not (is_of file placed.file)

abbrev pub placed_in : Bool → ℕ → List Placed → List Placed
placed_in inside file placed = filter (is_in inside file) placed
