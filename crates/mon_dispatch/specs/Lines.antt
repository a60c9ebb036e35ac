-- What each kind of line does. Source: mos65.
use Rattle.std.specs.Prelude.{ℕ, ◌≡◌, Bool, true, false, if◌then◌else◌, List, [], ◌∷◌, ◌++◌, Some, Result, Ok, Err}
use Rattle.model.specs.declared.event.Event.TheVariants as event
use Rattle.mon_by_line.specs.ByLine.{ran_to_line, undone_if_held}
use Rattle.mon_lines.specs.Lines.{SeenCommand, SeenLine, SeenSlip, command_view, seen_line}
use Rattle.mon_lines.specs.declared.command.Command.{Command}
use Rattle.mon_lines.specs.declared.command.Command.TheVariants as line
use Rattle.mon_runs.specs.Stops.{new_changes, without_register}
use Rattle.mon_runs.specs.declared.watches.Watch.{Watch}
use Rattle.mon_runs.specs.declared.watches.Watch.TheVariants as watching
use Rattle.mon_lines.specs.declared.command.Register.{Register}
use Rattle.mon_lines.specs.declared.command.Test.{Test}
use Rattle.mon_session.specs.Course.{Course, KeepsStops, ShowsOnly, course_of, happened}
use Rattle.mon_settings.specs.StopLines.{KeepsPast, KeepsWatches as KeepsWatched, SetsBreaks, addresses_at, all_deleted, can_watch, standing_of, with_watch}
use Rattle.mon_settings.specs.ByteLines.{all_happened, assembled, bytes_put, inputs}
use Rattle.mon_settings.specs.Displays.{with_display, without_display}
use Rattle.mon_settings.specs.FlagLines.{flag_setting}
use Rattle.mon_settings.specs.Names.{without_names}
use Rattle.mon_steps.specs.BackLines.{history_shown, most_remade, remade, undone_by, undone_by_watches}
use Rattle.mon_steps.specs.RunLines.{KeepsWatches, Stand, ran_by, ran_until, returned, some_steps, stand_of, stepped_over, watches_of}
use Rattle.mon_session.specs.declared.mon_state.MonState.{MonState}
use Rattle.mon_calls.specs.Calls.{ShowsCalls}
use Rattle.mon_calls.specs.Locals.{ShowsLocals}
use Rattle.mon_dispatch.specs.LineTexts.{behind_text, line_text, slip_line}
use Rattle.mon_dispatch.specs.declared.lines.Outcome.{Outcome}
use Rattle.mon_dispatch.specs.declared.lines.Outcome.TheVariants as outcome

-- So much was written for a line.
abbrev pub Says : List ℕ → MonState → MonState → Type 0
Says text old new = new.text.items ≡ old.text.items ++ text

-- Breaks are set at all of some addresses, or at none.
abbrev pub Breaks : List ℕ → List Test → ℕ → MonState → MonState → Type 0
Breaks addresses tests times old new
    = SetsBreaks addresses tests times old new × KeepsWatched old new

-- A watch is set.
abbrev pub SetsWatch : Watch → MonState → MonState → Type 0
SetsWatch watch old new = let watches = old.stops.watches.items in
    let can = can_watch watch old.session in
    (new.session ≡ with_watch watch watches old.session)
    × (new.stops.watches.items ≡ (if can then watches ++ watch ∷ [] else watches))
    × (new.stops.changes.items ≡ (if can then old.stops.changes.items ++ new_changes watches watch
    else old.stops.changes.items))
    × (new.stops.breaks ≡ old.stops.breaks) × KeepsPast old new

-- The break and the first watch at each of some addresses are cleared.
abbrev pub Deletes : List ℕ → MonState → MonState → Type 0
Deletes addresses old new = (standing_of new ≡ all_deleted addresses (standing_of old))
    × KeepsPast old new

-- The first watch of a register is cleared.
abbrev pub DeletesRegister : Register → MonState → MonState → Type 0
DeletesRegister register old new = (new.session ≡ old.session)
    × (new.stops.watches.items ≡ without_register register old.stops.watches.items)
    × (new.stops.breaks ≡ old.stops.breaks) × (new.stops.changes ≡ old.stops.changes)
    × KeepsPast old new

-- Other bytes are shown at each stop.
abbrev pub SetsDisplays : List ℕ → MonState → MonState → Type 0
SetsDisplays displays old new = (new.displays.items ≡ displays)
    × (course_of new ≡ course_of old) × (new.stops ≡ old.stops) × (new.places ≡ old.places)

-- A run leads the session, its events and its breaks there, and all else stays.
abbrev pub Arrives : Stand → MonState → MonState → Type 0
Arrives stand old new = (stand_of new ≡ stand) × KeepsWatches old new

-- The session and its events become others, and all else stays.
abbrev pub Becomes : Course → MonState → MonState → Type 0
Becomes course old new = (course_of new ≡ course) × KeepsStops old new

-- What a line does that asks for something. Most lines only look.
abbrev pub Does : Command → MonState → MonState → Type 0
Does line.Nothing old new = Arrives (some_steps 1 (watches_of old) (stand_of old)) old new
Does (line.Step count) old new
    = Arrives (some_steps count (watches_of old) (stand_of old)) old new
Does line.Over old new = Arrives (stepped_over (watches_of old) (stand_of old)) old new
Does line.Out old new = Arrives (returned (watches_of old) (stand_of old)) old new
Does line.Line old new
    = Arrives (ran_to_line old.places (watches_of old) (stand_of old)) old new
Does line.LineBack old new = Becomes (undone_if_held old.places (course_of old)) old new
Does (line.Until address) old new
    = Arrives (ran_until address (watches_of old) (stand_of old)) old new
Does (line.Go count) old new = Arrives (ran_by count (watches_of old) (stand_of old)) old new
Does (line.Back undoing) old new = Becomes (undone_by undoing (course_of old)) old new
Does line.Rback old new
    = Becomes (undone_by_watches old.stops (course_of old)) old new
Does (line.Redo count) old new
    = Becomes (remade (most_remade count old.events.undone) (course_of old)) old new
Does (line.History count) old new = Becomes (history_shown count (course_of old)) old new
Does (line.Break address at tests times) old new
    = Breaks (addresses_at old.places address at) tests.items times old new
Does (line.Watch stretch kind) old new
    = SetsWatch (watching.Bytes stretch kind) old new
Does (line.WatchRegister register) old new = SetsWatch (watching.Register register) old new
Does (line.Delete address at) old new = Deletes (addresses_at old.places address at) old new
Does (line.DeleteRegister register) old new = DeletesRegister register old new
Does (line.Display (Some address)) old new
    = SetsDisplays (with_display address old.displays.items) old new
Does (line.Undisplay address) old new
    = SetsDisplays (without_display address old.displays.items) old new
Does (line.Set setting) old new = Becomes (happened (event.Set setting) (course_of old)) old new
Does (line.SetFlag flag value) old new = Becomes
    (happened (event.Set (flag_setting flag value old.session.current)) (course_of old)) old new
Does (line.Put address bytes) old new
    = Becomes (bytes_put address bytes.items (course_of old)) old new
Does (line.Asm address text) old new
    = Becomes (assembled address (without_names old.places.names text.now) (course_of old)) old new
Does (line.Type bytes) old new
    = Becomes (all_happened (inputs bytes.items) (course_of old)) old new
Does (line.Irq level) old new = Becomes (happened (event.Irq level) (course_of old)) old new
Does line.Nmi old new = Becomes (happened event.Nmi (course_of old)) old new
Does line.Reset old new = Becomes (happened event.Reset (course_of old)) old new
Does command old new = ShowsOnly old new

-- What a line says: most lines a text of their own.
abbrev pub Tells : Command → MonState → MonState → Type 0
Tells line.Where old new
    = ShowsCalls old.session.current old.places old.text.items new.text.items
Tells (line.Locals number) old new
    = ShowsLocals old.session.current old.places number old.text.items new.text.items
Tells command old new = Says (line_text command old) old new

-- Whether the session ends with a line, or has moved, so that it stops anew.
abbrev pub outcome_of : Command → Outcome
outcome_of line.Quit = outcome.Over
outcome_of line.Nothing = outcome.Moved
outcome_of (line.Step count) = outcome.Moved
outcome_of line.Over = outcome.Moved
outcome_of line.Out = outcome.Moved
outcome_of line.Line = outcome.Moved
outcome_of line.LineBack = outcome.Moved
outcome_of (line.Until address) = outcome.Moved
outcome_of (line.Go count) = outcome.Moved
outcome_of (line.Back undoing) = outcome.Moved
outcome_of line.Rback = outcome.Moved
outcome_of (line.Redo count) = outcome.Moved
outcome_of line.Reset = outcome.Moved
outcome_of command = outcome.Stays

abbrev pub is_over : Outcome → Bool
is_over outcome.Over = true
is_over outcome.Moved = false
is_over outcome.Stays = false

-- What a line is read as at a state of `mon`.
abbrev pub read_at : MonState → List ℕ → SeenLine
read_at mon line = seen_line mon.places mon.session.current.regs.pc line

-- A line that can be read does what it asks for, and says so. Any other only says what is wrong.
abbrev pub Follows : Result SeenCommand SeenSlip → Outcome → MonState → MonState → Type 0
Follows (Ok seen) result old new = (command : Command) × (command_view command ≡ seen)
    × (result ≡ outcome_of command) × Does command old new × Tells command old new
Follows (Err slip) result old new = (result ≡ outcome.Stays) × ShowsOnly old new
    × Says (slip_line slip) old new

-- A line does what it asks for. If the session has moved, the bytes that are displayed are shown
-- then.
abbrev pub Serves : SeenLine → Bool → MonState → MonState → Type 0
Serves line over old new = (between : MonState) × (result : Outcome)
    × Follows line.asked result old between × (over ≡ is_over result)
    × ShowsOnly between new × Says (behind_text result line.decimal between) between new
