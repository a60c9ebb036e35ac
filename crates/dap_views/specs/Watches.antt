-- Watched bytes. Source: Debug Adapter Protocol 1.65, "DataBreakpointInfo Request",
-- "SetDataBreakpoints Request"; that a write is a change, that an address is written as a reference,
-- and that the list stands for all watches, mos65.
use Rattle.std.specs.Prelude.{ℕ, ◌≡◌, ◌+◌, ◌-◌, ◌&&◌, zero, suc, unwrap_or, Bool, true, false, if◌then◌else◌, List, [], ◌∷◌, ◌++◌, map, Option, Some, None}
use Rattle.std.specs.List.{flat_map}
use Rattle.dap_views.specs.declared.watches.TheConstants.{NO_DATA, NOT_WATCHED}
use Rattle.dap_messages.specs.SeenAnswers.{SeenAnswer, SeenItem, breakpoints_body, data_at, data_unwatched, data_watched, no_data}
use Rattle.dap_messages.specs.declared.request.Access.{Access}
use Rattle.dap_messages.specs.declared.request.Access.TheVariants as access
use Rattle.dap_messages.specs.References.{address_of, range_of}
use Rattle.dap_messages.specs.declared.request.ByteRange.{ByteRange}
use Rattle.dap_messages.specs.declared.request.DataBreakpoint.{DataBreakpoint}
use Rattle.dap_messages.specs.declared.request.Scope.{Scope}
use Rattle.dap_messages.specs.declared.request.Scope.TheVariants as scope
use Rattle.dap_views.specs.Looks.{place_named}
use Rattle.model.specs.Breakpoints.{watch_cleared}
use Rattle.model.specs.Session.{Session}
use Rattle.mon_lines.specs.declared.command.WatchKind.{WatchKind}
use Rattle.mon_lines.specs.declared.command.WatchKind.TheVariants.{Change, Read, Write}
use Rattle.mon_session.specs.declared.mon_state.MonState.{MonState}
use Rattle.mon_settings.specs.StopLines.{can_watch, or_same, with_watch}
use Rattle.mon_runs.specs.Stops.{has_access, new_changes}
use Rattle.mon_runs.specs.declared.watches.Watch.{Watch}
use Rattle.mon_runs.specs.declared.watches.Watch.TheVariants.{Bytes}

-- ---- what can be watched

-- Registers, flags and what is told of the machine are no bytes of memory.
abbrev pub has_bytes : Option Scope → Bool
has_bytes (Some scope.Registers) = false
has_bytes (Some scope.Flags) = false
has_bytes (Some scope.Machine) = false
has_bytes (Some (scope.Locals frame)) = false
has_bytes other = true

-- The address of the byte that a name stands for.
abbrev pub place_if : Bool → MonState → List ℕ → Option ℕ
place_if is_byte mon name = if is_byte
    then place_named mon.places mon.session.current.regs.pc name else None

-- The address that a name is, or else that of the byte that it stands for.
abbrev pub place_meant : MonState → Option Scope → List ℕ → Bool → Option ℕ
place_meant mon scope name is_address = if is_address then address_of name
    else place_if (has_bytes scope) mon name

-- So many bytes from there on: one where no number is named.
abbrev pub range_from : Option ℕ → Option ℕ → Option ByteRange
range_from None count = None
range_from (Some address) count = range_of address (unwrap_or count 1)

abbrev pub data_by : Option ByteRange → SeenAnswer
data_by (Some range) = data_at range
data_by None = no_data NO_DATA.now

abbrev pub data_shown : MonState → Option Scope → List ℕ → Option ℕ → Bool → SeenAnswer
data_shown mon scope name count is_address
    = data_by (range_from (place_meant mon scope name is_address) count)

-- ---- watches that are listed

abbrev pub bytes_watch : ByteRange → WatchKind → Watch
bytes_watch range kind = Bytes (record { first = range.first; last = range.last }) kind

abbrev pub watches_for : ByteRange → Access → List Watch
watches_for range access.Read = bytes_watch range Read ∷ []
watches_for range access.ReadWrite = bytes_watch range Read ∷ bytes_watch range Write ∷ []
watches_for range access.Write = bytes_watch range Change ∷ []

abbrev pub watches_at : Option ByteRange → Access → List Watch
watches_at (Some range) access = watches_for range access
watches_at None access = []

abbrev pub watches_of : DataBreakpoint → List Watch
watches_of wanted = watches_at wanted.range wanted.access

abbrev pub watches_in : List DataBreakpoint → List Watch
watches_in listed = flat_map watches_of listed

-- ---- watches that are set

-- The session, its watches, and the addresses at which a change stops a run.
abbrev pub Watched : Type 0
Watched = Session × List Watch × List ℕ

abbrev pub watched_of : MonState → Watched
watched_of mon = (mon.session, mon.stops.watches.items, mon.stops.changes.items)

abbrev pub unset : ℕ → Session → Session
unset address s = or_same s (watch_cleared address s)

abbrev pub all_unset : List ℕ → Session → Session
all_unset [] s = s
all_unset (address ∷ rest) s = all_unset rest (unset address s)

abbrev pub none_watched : Watched → Watched
none_watched w = (all_unset w.2 w.0, [], [])

-- One more watch is set. Nothing is changed if it cannot be.
abbrev pub with_one : Watch → Watched → Watched
with_one watch w = (
  with_watch watch w.1 w.0,
  if can_watch watch w.0 then w.1 ++ watch ∷ [] else w.1,
  if can_watch watch w.0 then w.2 ++ new_changes w.1 watch else w.2,
)

abbrev pub with_all : List Watch → Watched → Watched
with_all [] w = w
with_all (watch ∷ rest) w = with_all rest (with_one watch w)

-- All watches are replaced by those of the list.
abbrev pub SetsWatches : List DataBreakpoint → MonState → MonState → Type 0
SetsWatches listed old new
    = watched_of new ≡ with_all (watches_in listed) (none_watched (watched_of old))

-- ---- what is answered

-- Whether an access of a kind to each of so many bytes from an address on stops a run.
unfoldable pub has_all : WatchKind → List Watch → ℕ → ℕ → Bool
has_all kind watches zero address = true
has_all kind watches (suc n) address
    = has_access kind address watches && has_all kind watches n (address + 1)

-- The same of the last of some bytes, and of those before it.
abbrev pub all_watched : List Watch → ByteRange → WatchKind → Bool
all_watched watches range kind = has_access kind range.last watches
    && has_all kind watches (range.last - range.first) range.first

-- Whether bytes are watched for an access.
abbrev pub is_watched : List Watch → ByteRange → Access → Bool
is_watched watches range access.Read = all_watched watches range Read
is_watched watches range access.ReadWrite
    = all_watched watches range Read && all_watched watches range Write
is_watched watches range access.Write = all_watched watches range Change

-- Bytes that a client wants watched together are told to be watched, or why they are not.
abbrev pub told_at : List Watch → Option ByteRange → Access → SeenItem
told_at watches (Some range) access = if is_watched watches range access then data_watched
    else data_unwatched NOT_WATCHED.now
told_at watches None access = data_unwatched NO_DATA.now

abbrev pub told_of : List Watch → DataBreakpoint → SeenItem
told_of watches wanted = told_at watches wanted.range wanted.access

-- Each entry of the list is told of, in the order of the list.
abbrev pub TellsWatches : List DataBreakpoint → List Watch → SeenAnswer → Type 0
TellsWatches listed watches v = v ≡ breakpoints_body (map (told_of watches) listed)

-- ---- what stays

-- Events, breaks, names, lines, and what is shown at each stop are what they were.
abbrev pub KeepsBreaks : MonState → MonState → Type 0
KeepsBreaks old new = (new.events ≡ old.events) × (new.stops.breaks ≡ old.stops.breaks)
    × (new.places ≡ old.places) × (new.displays ≡ old.displays)
