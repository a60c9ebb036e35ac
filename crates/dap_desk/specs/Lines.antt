-- Moves by lines of a source that another tool has built. Source: mos65.
use Rattle.std.specs.Prelude.{ℕ, ◌&&◌, zero, suc, not, is_some, Bool, true, false, if◌then◌else◌, List, Option, Some, None}
use Rattle.std.specs.Option.{option_or}
use Rattle.line_steps.specs.Lines.{begun, is_other}
use Rattle.line_steps.specs.declared.lines.FileLine.{FileLine}
use Rattle.line_steps.specs.declared.lines.LineStart.{LineStart}
use Rattle.model.specs.Run.{run_end}
use Rattle.model.specs.State.{State}
use Rattle.mon_by_line.specs.ByLine.{line_at, line_starts, undone_to_line}
use Rattle.mon_by_line.specs.LineRuns.{line_run}
use Rattle.mon_runs.specs.Looked.{Arrival, Place, after_stretch, ended_or, why_of_step}
use Rattle.mon_runs.specs.PastBreaks.{most_steps}
use Rattle.mon_runs.specs.declared.ended.EndWhy.{EndWhy}
use Rattle.mon_runs.specs.declared.ended.EndWhy.TheVariants.{Many, Met}
use Rattle.mon_runs.specs.declared.looked.Goal.TheVariants.{Rest}
use Rattle.mon_runs.specs.declared.watches.Watch.{Watch}
use Rattle.mon_session.specs.Course.{Course, course_of}
use Rattle.mon_session.specs.declared.mon_state.MonState.{MonState}
use Rattle.mon_steps.specs.RunLines.{stand_of, start_of, watches_of}
use Rattle.source_map.specs.Lines.{row_at}

-- Whether moves go by lines: the program is no source of mos65, and the line at the program counter
-- is known.
abbrev pub goes_by_lines : MonState → Bool
goes_by_lines mon = not mon.places.is_whole
    && is_some (row_at mon.places.lines mon.session.current.regs.pc)

-- ---- forwards

-- That a run has met its goal, if another line than `from` begins at a state.
abbrev pub met_if : List LineStart → Option FileLine → State → Option EndWhy
met_if starts from state = if is_other from (begun starts state) then Some Met else None

-- Up to n steps, as a run to a stop makes them, until one leads to where another line than `from`
-- begins, or ends the run.
unfoldable pub into_run : List LineStart → Option FileLine → List Watch → ℕ → Place → Arrival
into_run starts from watches zero place
    = (record { did = 0; why = Many; from = None }, place)
into_run starts from watches (suc n) place =
    let after = after_stretch None 1 place in
    ended_or (option_or (why_of_step watches Rest None place)
    (met_if starts from after.0.current)) (run_end 1 place.0).did
    (Some place.0.current.regs.pc) after (into_run starts from watches n after)

-- A run to where another line begins: into calls, or within no call of the run, as a run of `mon`.
abbrev pub to_line : Bool → List LineStart → Option FileLine → List Watch → Place → Arrival
to_line into starts from watches place = if into
    then into_run starts from watches most_steps place
    else line_run starts from most_steps watches place

-- A run to where another line begins than the one at the program counter.
abbrev pub arrival_by : List LineStart → Bool → MonState → Arrival
arrival_by starts into mon = to_line into starts
    (line_at mon.places.lines mon.session.current.regs.pc) (watches_of mon)
    (start_of (stand_of mon))

abbrev pub line_arrival : Bool → MonState → Arrival
line_arrival into mon = arrival_by (line_starts mon.places.lines) into mon

-- Within no call of the run, or into calls.
abbrev pub line_over : MonState → Arrival
line_over mon = line_arrival false mon

abbrev pub line_in : MonState → Arrival
line_in mon = line_arrival true mon

-- ---- back

-- As many events are undone as lead back to where a line begins, within no call that has returned
-- since.
abbrev pub line_back : MonState → Course
line_back mon = undone_to_line (line_starts mon.places.lines) (course_of mon)
