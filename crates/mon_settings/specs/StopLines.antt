-- What lines do to breaks and watches. Source: mos65.
use Rattle.std.specs.Prelude.{ℕ, ◌≡◌, ◌+◌, ◌-◌, ◌||◌, Bool, nat_eq, nat_le, not, is_none, is_ok, is_some, if◌then◌else◌, List, [], ◌∷◌, length, map, zero, suc, Option, Some, None, Result, Ok, Err}
use Rattle.std.specs.List.{count_by, list_any}
use Rattle.mon_settings.specs.declared.watches.Unwatched.{Unwatched}
use Rattle.mon_settings.specs.declared.watches.Unwatched.TheVariants.{Port, Full, Wide}
use Rattle.model.specs.Session.{Session}
use Rattle.model.specs.Breakpoints.{break_cleared, table_size, watch_set, watch_cleared}
use Rattle.model.specs.declared.session_fault.SessionFault.{SessionFault}
use Rattle.model.specs.declared.session_fault.SessionFault.TheVariants.{AlreadySet, PortAddress}
use Rattle.mon_lines.specs.declared.command.Stretch.{Stretch}
use Rattle.mon_lines.specs.declared.command.Test.{Test}
use Rattle.mon_session.specs.declared.mon_state.MonState.{MonState}
use Rattle.source_map.specs.Lines.{PlacesView, addresses_of_line}
use Rattle.mon_lines.specs.declared.command.WatchKind.TheVariants.{Change}
pub use Rattle.mon_runs.specs.Breaks.{all_set, or_same, set_at}
use Rattle.mon_runs.specs.Looked.{Place}
use Rattle.mon_runs.specs.Stops.{changed, changes_of, first_with, has_access, without, without_first_with}
use Rattle.mon_runs.specs.declared.breaks.Break.{Break}
use Rattle.mon_runs.specs.declared.watches.Watch.{Watch}

-- ---- breaks

-- Where breaks are set or cleared: at an address, or at all addresses of a line of a file.
abbrev pub addresses_at : PlacesView → ℕ → Option (ℕ × ℕ) → List ℕ
addresses_at places address None = address ∷ []
addresses_at places address (Some line) = addresses_of_line places.sites line.0 line.1

-- Whether the session has room for breaks at all of some addresses.
abbrev pub have_room : List ℕ → Session → Bool
have_room addresses s = nat_le
    (count_by (λ address. not (list_any (nat_eq address) s.breaks)) addresses)
    (table_size - length s.breaks)

-- The session, which has the addresses, and the breaks with their tests.
abbrev pub place_of : MonState → Place
place_of mon = (mon.session, mon.stops.breaks.items)

-- A break with its tests, which was not visited yet.
abbrev pub break_view : Break → ℕ × List Test × ℕ × ℕ
break_view stop = (stop.address, stop.tests.items, stop.times, stop.visits)

abbrev pub new_break : List Test → ℕ → ℕ → ℕ × List Test × ℕ × ℕ
new_break tests times address = (address, tests, times, 0)

-- Breaks with the same tests are set at all of some addresses, or at none.
abbrev pub SetsBreaks : List ℕ → List Test → ℕ → MonState → MonState → Type 0
SetsBreaks addresses tests times old new = (stops : List Break)
    × (map break_view stops ≡ map (new_break tests times) addresses)
    × (place_of new ≡ (if have_room addresses old.session then all_set stops (place_of old)
    else place_of old))

-- Events, watches, names, lines, and what is shown at each stop are what they were.
abbrev pub KeepsWatches : MonState → MonState → Type 0
KeepsWatches old new = (new.events ≡ old.events) × (new.stops.watches ≡ old.stops.watches)
    × (new.stops.changes ≡ old.stops.changes) × (new.places ≡ old.places)
    × (new.displays ≡ old.displays)

-- ---- watches of changes in the session

-- How many addresses a stretch has.
abbrev pub size_of : Stretch → ℕ
size_of stretch = (stretch.last + 1) - stretch.first

-- Why an address is not watched once it was to be: a port is there, or 256 others are watched.
abbrev pub why_unset : Result Session SessionFault → Option Unwatched
why_unset (Ok s) = None
why_unset (Err AlreadySet) = None
why_unset (Err PortAddress) = Some Port
why_unset (Err fault) = Some Full

-- One more address is watched, if those before it are: the session, and why it is not.
abbrev pub if_watched : ℕ → Session → Option Unwatched → Session × Option Unwatched
if_watched address s None
    = (or_same s (watch_set address s), why_unset (watch_set address s))
if_watched address s (Some why) = (s, Some why)

abbrev pub one_watched : ℕ → Session × Option Unwatched → Session × Option Unwatched
one_watched address tried = if_watched address tried.0 tried.1

-- The session once so many addresses from one on are watched, up to the first that cannot be, and
-- why that one cannot.
abbrev pub all_watched : ℕ → ℕ → Session → Session × Option Unwatched
all_watched first zero s = (s, None)
all_watched first (suc n) s = one_watched (first + n) (all_watched first n s)

-- At most 256 bytes are watched for changes by one line.
abbrev pub stretch_watched : Stretch → Session → Session × Option Unwatched
stretch_watched stretch s = if nat_le 256 (stretch.last - stretch.first) then (s, Some Wide)
    else all_watched stretch.first (size_of stretch) s

-- The session without the watch at an address, if no watch for changes has that address.
abbrev pub unwatched : List Watch → ℕ → Session → Session
unwatched watches address s = if has_access Change address watches then s
    else or_same s (watch_cleared address s)

-- The same at so many addresses from one on.
abbrev pub all_unwatched : List Watch → ℕ → ℕ → Session → Session
all_unwatched watches first zero s = s
all_unwatched watches first (suc n) s
    = unwatched watches (first + n) (all_unwatched watches first n s)

abbrev pub stretch_unwatched : List Watch → Stretch → Session → Session
stretch_unwatched watches stretch s = all_unwatched watches stretch.first (size_of stretch) s

-- ---- a watch that is set

-- The session once a stretch is watched for changes, whole or not at all.
abbrev pub if_whole : List Watch → Stretch → Session → Option Unwatched → Session
if_whole watches stretch s None = s
if_whole watches stretch s (Some why) = stretch_unwatched watches stretch s

abbrev pub whole_or_none : List Watch → Stretch → Session × Option Unwatched → Session
whole_or_none watches stretch tried = if_whole watches stretch tried.0 tried.1

-- Why a watch cannot be set, and the session then. Reads, writes and registers are not the session's.
abbrev pub why_unchanged : Option Stretch → Session → Option Unwatched
why_unchanged None s = None
why_unchanged (Some stretch) s = (stretch_watched stretch s).1

abbrev pub why_unwatched : Watch → Session → Option Unwatched
why_unwatched watch s = why_unchanged (changed watch) s

abbrev pub can_watch : Watch → Session → Bool
can_watch watch s = is_none (why_unwatched watch s)

abbrev pub with_changes : Option Stretch → List Watch → Session → Session
with_changes None watches s = s
with_changes (Some stretch) watches s
    = whole_or_none watches stretch (stretch_watched stretch s)

abbrev pub with_watch : Watch → List Watch → Session → Session
with_watch watch watches s = with_changes (changed watch) watches s

-- ---- what stands at an address is deleted

-- The session without the changes that a deleted watch has watched, if there was one.
abbrev pub if_unwatched : List Watch → Session → Option Stretch → Session
if_unwatched left s None = s
if_unwatched left s (Some stretch) = stretch_unwatched left stretch s

abbrev pub if_deleted : List Watch → Session → Option Watch → Session
if_deleted left s None = s
if_deleted left s (Some watch) = if_unwatched left s (changed watch)

abbrev pub without_stops : ℕ → List Watch → Session → Session
without_stops address watches s = if_deleted (without_first_with address watches)
    (or_same s (break_cleared address s)) (first_with address watches)

-- Whether a break of the session or a watch stands at an address.
abbrev pub stands_at : ℕ → List Watch → Session → Bool
stands_at address watches s
    = is_some (first_with address watches) || is_ok (break_cleared address s)

-- The addresses at which a change stops a run, once a watch is deleted.
abbrev pub changes_left : List Watch → List ℕ → Option Watch → List ℕ
changes_left left changes None = changes
changes_left left changes (Some watch) = changes_of left changes

-- What stands in a session: breaks, watches, and the addresses at which a change stops a run.
pub record Standing : Type 0 where
  pub session : Session
  pub breaks : List Break
  pub watches : List Watch
  pub changes : List ℕ

abbrev pub standing_of : MonState → Standing
standing_of mon = record {
  session = mon.session;
  breaks = mon.stops.breaks.items;
  watches = mon.stops.watches.items;
  changes = mon.stops.changes.items;
}

-- The break and the first watch at an address are cleared.
abbrev pub deleted_at : ℕ → Standing → Standing
deleted_at address now = record {
  session = without_stops address now.watches now.session;
  breaks = without address now.breaks;
  watches = without_first_with address now.watches;
  changes = changes_left (without_first_with address now.watches) now.changes
      (first_with address now.watches);
}

abbrev pub all_deleted : List ℕ → Standing → Standing
all_deleted [] now = now
all_deleted (address ∷ rest) now = all_deleted rest (deleted_at address now)

-- Events, names, lines, and what is shown at each stop are what they were.
abbrev pub KeepsPast : MonState → MonState → Type 0
KeepsPast old new = (new.events ≡ old.events) × (new.places ≡ old.places)
    × (new.displays ≡ old.displays)
