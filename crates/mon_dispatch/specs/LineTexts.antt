-- What is written for each kind of line. Source: mos65.
use Rattle.std.specs.Prelude.{ℕ, List, [], ◌++◌, Option, None, Some, codes}
use Rattle.model.specs.declared.event.Event.TheVariants as event
use Rattle.mon_settings.specs.StopLines.{addresses_at, have_room, standing_of, why_unwatched}
use Rattle.mon_settings.specs.StopTexts.{all_deleted_text, list_text, register_deleted_text, set_text, watched_text}
use Rattle.mon_settings.specs.Displays.{all_displays_text, display_set_text, displays_text, is_displayed, undisplayed_text}
use Rattle.mon_settings.specs.FlagLines.{flag_setting}
use Rattle.mon_settings.specs.Names.{without_names}
use Rattle.mon_settings.specs.ChangeTexts.{assembled_text, handed_text, irq_text, nmi_text, put_text, shown_event}
use Rattle.mon_session.specs.Course.{course_of}
use Rattle.mon_session.specs.declared.mon_state.MonState.{MonState}
use Rattle.mon_by_line.specs.ByLine.{line_back_text, line_run_text}
use Rattle.mon_lines.specs.Lines.{SeenSlip}
use Rattle.mon_lines.specs.declared.command.Command.{Command}
use Rattle.mon_lines.specs.declared.command.Command.TheVariants as line
use Rattle.mon_lines.specs.declared.command.Test.{Test}
use Rattle.mon_dispatch.specs.LookTexts.{look_text}
use Rattle.mon_steps.specs.RunLines.{stand_of, watches_of}
use Rattle.mon_steps.specs.RunTexts.{out_text, over_text, run_text, some_steps_text, until_text}
use Rattle.mon_steps.specs.BackTexts.{history_text, redo_text, undo_text, undo_to_stop_text}
use Rattle.mon_runs.specs.Stops.{is_watched}
use Rattle.mon_runs.specs.declared.watches.Watch.{Watch}
use Rattle.mon_runs.specs.declared.watches.Watch.TheVariants as watching
use Rattle.mon_texts.specs.Help.{example_text}
use Rattle.mon_texts.specs.Slips.{slip_text}
use Rattle.mon_dispatch.specs.declared.lines.Outcome.{Outcome}
use Rattle.mon_dispatch.specs.declared.lines.Outcome.TheVariants as outcome
use Rattle.mon_dispatch.specs.declared.wording.TheConstants.{IS_DECIMAL, IS_HEX}

-- Breaks that are set, or that the session has no room for.
abbrev pub broken_text : List ℕ → List Test → ℕ → MonState → List ℕ
broken_text addresses tests times mon
    = set_text mon.places addresses tests times (have_room addresses mon.session)

-- A line at a state of `mon` that can be read.
abbrev pub line_text : Command → MonState → List ℕ
line_text line.Nothing mon
    = some_steps_text 1 (watches_of mon) mon.places (stand_of mon)
line_text (line.Step count) mon
    = some_steps_text count (watches_of mon) mon.places (stand_of mon)
line_text line.Over mon = over_text (watches_of mon) mon.places (stand_of mon)
line_text line.Out mon = out_text (watches_of mon) mon.places (stand_of mon)
line_text line.Line mon = line_run_text (watches_of mon) mon.places (stand_of mon)
line_text line.LineBack mon = line_back_text mon.places (course_of mon)
line_text (line.Until address) mon
    = until_text address (watches_of mon) mon.places (stand_of mon)
line_text (line.Go count) mon
    = run_text count (watches_of mon) mon.places (stand_of mon)
line_text (line.Back undoing) mon = undo_text undoing mon.places (course_of mon)
line_text line.Rback mon
    = undo_to_stop_text mon.stops mon.places (course_of mon)
line_text (line.Redo count) mon = redo_text count mon.places.names (course_of mon)
line_text (line.History count) mon = history_text count mon.places (course_of mon)
line_text (line.Break address at tests times) mon
    = broken_text (addresses_at mon.places address at) tests.items times mon
line_text (line.Watch stretch kind) mon =
    let bytes : Watch = watching.Bytes stretch kind in
    watched_text mon.places.names bytes (why_unwatched bytes mon.session)
line_text (line.WatchRegister register) mon =
    let watch : Watch = watching.Register register in
    watched_text mon.places.names watch (why_unwatched watch mon.session)
line_text line.List mon
    = list_text mon.places.names mon.stops.breaks.items mon.stops.watches.items
line_text (line.Delete address at) mon = all_deleted_text mon.places.names
    (addresses_at mon.places address at) (standing_of mon)
line_text (line.DeleteRegister register) mon
    = register_deleted_text register (is_watched register mon.stops.watches.items)
line_text (line.Display None) mon
    = all_displays_text mon.places.names mon.session.current mon.displays.items
line_text (line.Display (Some address)) mon
    = display_set_text mon.places.names mon.session.current address mon.displays.items
line_text (line.Undisplay address) mon = undisplayed_text mon.places.names address
    (is_displayed address mon.displays.items)
line_text (line.Set setting) mon
    = shown_event mon.places.names (event.Set setting) (course_of mon)
line_text (line.SetFlag flag value) mon = shown_event mon.places.names
    (event.Set (flag_setting flag value mon.session.current)) (course_of mon)
line_text (line.Put address bytes) mon
    = put_text mon.places.names address bytes.items (course_of mon)
line_text (line.Asm address text) mon = assembled_text mon.places address
    (without_names mon.places.names text.now) (course_of mon)
line_text (line.Type bytes) mon
    = handed_text mon.places.names bytes.items (course_of mon)
line_text (line.Irq level) mon = irq_text mon.places.names level (course_of mon)
line_text line.Nmi mon = nmi_text mon.places.names (course_of mon)
line_text line.Reset mon = shown_event mon.places.names event.Reset (course_of mon)
line_text command mon = look_text command mon.session.current mon.places

-- A line that cannot be read: what is wrong, and an example.
abbrev pub slip_line : SeenSlip → List ℕ
slip_line slip = slip_text slip.1 ++ example_text slip.0 ++ codes "\n"

-- A number in decimal where an address is wanted.
abbrev pub if_decimal : Option (List ℕ) → List ℕ
if_decimal None = []
if_decimal (Some word)
    = word ++ (IS_DECIMAL.now ++ (word ++ IS_HEX.now))

-- The bytes that are displayed, once the session has moved.
abbrev pub moved_text : Outcome → MonState → List ℕ
moved_text outcome.Moved mon
    = displays_text mon.places.names mon.session.current mon.displays.items
moved_text outcome.Over mon = []
moved_text outcome.Stays mon = []

-- What is written behind what a line says, where this is now the state of `mon`.
abbrev pub behind_text : Outcome → Option (List ℕ) → MonState → List ℕ
behind_text result decimal mon = moved_text result mon ++ if_decimal decimal
