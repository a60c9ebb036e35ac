-- What a move does to a state of `mon`, in the words of its lines: no move backwards makes a step.
-- Why the machine stands then. Source: Debug Adapter Protocol 1.65; mos65.
use Rattle.std.specs.Prelude.{ℕ, ◌==◌, if◌then◌else◌, Bool, false, List, Option, Some, None}
use Rattle.dap_desk.specs.Halts.{back_reason, back_words, fault_of, line_words, reason_of, run_reason, run_words, stop_reason, stop_words, words_of}
use Rattle.dap_desk.specs.Lines.{goes_by_lines, line_back, line_in, line_over}
use Rattle.dap_desk.specs.Onward.{goes_on, on_arrival, on_fault, on_reason, on_words, row_starts, watch_reason, watch_words}
use Rattle.dap_messages.specs.declared.halt.Reason.{Reason}
use Rattle.dap_messages.specs.declared.request.Move.{Move}
use Rattle.dap_messages.specs.declared.request.Move.TheVariants as to
use Rattle.model.specs.declared.event.EventFault.{EventFault}
use Rattle.mon_by_line.specs.ByLine.{undone_to_line}
use Rattle.mon_runs.specs.Goals.{opcode_at_pc}
use Rattle.mon_runs.specs.Looked.{Arrival}
use Rattle.mon_runs.specs.PastBreaks.{count_run, go_run, out_run, over_run}
use Rattle.mon_runs.specs.declared.ended.EndWhy.{EndWhy}
use Rattle.mon_session.specs.Course.{Course, course_of}
use Rattle.mon_session.specs.declared.mon_state.MonState.{MonState}
use Rattle.mon_steps.specs.BackLines.{undone, undone_by_watches, undone_over}
pub use Rattle.mon_steps.specs.RunLines.{KeepsWatches, Stand, stand_of}
use Rattle.mon_steps.specs.RunLines.{arrived, called, ran, ran_by, returned, start_of, watches_of}

-- A JSR as one step, or one step.
abbrev pub stepped_over : MonState → Stand
stepped_over mon = if opcode_at_pc mon.session.current == 0x20
    then called (watches_of mon) (stand_of mon) else ran 1 (watches_of mon) (stand_of mon)

-- Events are undone, and the breaks are what they were.
abbrev pub gone_back : Course → MonState → Stand
gone_back course mon = (course, mon.stops.breaks.items)

abbrev pub stepped : MonState → Stand
stepped mon = ran 1 (watches_of mon) (stand_of mon)

-- By instructions. A run has at most so many steps, if a number is given.
abbrev pub plain_moved : Option ℕ → Move → MonState → Stand
plain_moved steps to.Over mon = stepped_over mon
plain_moved steps to.In mon = stepped mon
plain_moved steps to.Step mon = stepped mon
plain_moved steps to.Out mon = returned (watches_of mon) (stand_of mon)
plain_moved steps to.Go mon = ran_by steps (watches_of mon) (stand_of mon)
plain_moved steps to.BackOver mon = gone_back (undone_over (course_of mon)) mon
plain_moved steps to.Back mon = gone_back (undone 1 (course_of mon)) mon
plain_moved steps to.BackToStop mon
    = gone_back (undone_by_watches mon.stops (course_of mon)) mon

-- Why the machine stands then.

-- Why the steps of a move end that makes steps.
abbrev pub over_end : MonState → EndWhy
over_end mon = if opcode_at_pc mon.session.current == 0x20
    then (over_run (watches_of mon) (start_of (stand_of mon))).0.why
    else (count_run 1 (watches_of mon) (start_of (stand_of mon))).0.why

abbrev pub step_end : MonState → EndWhy
step_end mon = (count_run 1 (watches_of mon) (start_of (stand_of mon))).0.why

abbrev pub out_end : MonState → EndWhy
out_end mon = (out_run (watches_of mon) (start_of (stand_of mon))).0.why

abbrev pub run_end : Option ℕ → MonState → EndWhy
run_end (Some count) mon = (count_run count (watches_of mon) (start_of (stand_of mon))).0.why
run_end None mon = (go_run (watches_of mon) (start_of (stand_of mon))).0.why

-- The reason of the protocol.
abbrev pub plain_reason : Option ℕ → Move → MonState → Reason
plain_reason steps to.Over mon = reason_of (over_end mon)
plain_reason steps to.In mon = reason_of (step_end mon)
plain_reason steps to.Step mon = reason_of (step_end mon)
plain_reason steps to.Out mon = reason_of (out_end mon)
plain_reason steps to.Go mon = run_reason (run_end steps mon)
plain_reason steps to.BackOver mon = back_reason (undone_over (course_of mon)).0
plain_reason steps to.Back mon = back_reason (undone 1 (course_of mon)).0
plain_reason steps to.BackToStop mon
    = stop_reason (undone_by_watches mon.stops (course_of mon)).0

-- ---- a watch in code without lines, which a line has called

-- Where a run has ended that has no number of steps, it goes on.
abbrev pub run_goes_on : Option ℕ → MonState → Bool
run_goes_on (Some count) mon = false
run_goes_on None mon = goes_on mon.places (plain_reason None to.Go mon)
    (plain_moved None to.Go mon).0.0.current

abbrev pub run_arrival : MonState → Arrival
run_arrival mon
    = on_arrival (row_starts mon.places.lines) (watches_of mon) (plain_moved None to.Go mon)

abbrev pub run_moved : Option ℕ → MonState → Stand
run_moved steps mon = if run_goes_on steps mon
    then arrived (run_arrival mon) (plain_moved None to.Go mon) else plain_moved steps to.Go mon

-- So does a way back.
abbrev pub to_watch : MonState → Course
to_watch mon = undone_by_watches mon.stops (course_of mon)

abbrev pub back_goes_on : MonState → Bool
back_goes_on mon = goes_on mon.places (stop_reason (to_watch mon).0) (to_watch mon).0.current

abbrev pub back_from_watch : MonState → Course
back_from_watch mon = undone_to_line (row_starts mon.places.lines) (to_watch mon)

abbrev pub back_moved : MonState → Stand
back_moved mon = gone_back (if back_goes_on mon then back_from_watch mon else to_watch mon) mon

-- ---- a move

-- Three moves go by lines, where they can.
abbrev pub moved : Option ℕ → Move → MonState → Stand
moved steps to.Over mon = if goes_by_lines mon then arrived (line_over mon) (stand_of mon)
    else plain_moved steps to.Over mon
moved steps to.In mon = if goes_by_lines mon then arrived (line_in mon) (stand_of mon)
    else plain_moved steps to.In mon
moved steps to.BackOver mon = if goes_by_lines mon then gone_back (line_back mon) mon
    else plain_moved steps to.BackOver mon
moved steps to.Go mon = run_moved steps mon
moved steps to.BackToStop mon = back_moved mon
moved steps way mon = plain_moved steps way mon

-- ---- why the machine stands

abbrev pub run_moved_reason : Option ℕ → MonState → Reason
run_moved_reason steps mon = if run_goes_on steps mon
    then on_reason (run_arrival mon).0.why (plain_reason None to.Go mon)
    else plain_reason steps to.Go mon

abbrev pub back_moved_reason : MonState → Reason
back_moved_reason mon = if back_goes_on mon then watch_reason (back_from_watch mon).0
    else stop_reason (to_watch mon).0

abbrev pub moved_reason : Option ℕ → Move → MonState → Reason
moved_reason steps to.Over mon = if goes_by_lines mon then reason_of (line_over mon).0.why
    else plain_reason steps to.Over mon
moved_reason steps to.In mon = if goes_by_lines mon then reason_of (line_in mon).0.why
    else plain_reason steps to.In mon
moved_reason steps to.BackOver mon = if goes_by_lines mon then back_reason (line_back mon).0
    else plain_reason steps to.BackOver mon
moved_reason steps to.Go mon = run_moved_reason steps mon
moved_reason steps to.BackToStop mon = back_moved_reason mon
moved_reason steps way mon = plain_reason steps way mon

-- In words.
abbrev pub plain_words : Option ℕ → Move → MonState → List ℕ
plain_words steps to.Over mon = words_of (over_end mon)
plain_words steps to.In mon = words_of (step_end mon)
plain_words steps to.Step mon = words_of (step_end mon)
plain_words steps to.Out mon = words_of (out_end mon)
plain_words steps to.Go mon = run_words (run_end steps mon)
plain_words steps to.BackOver mon = back_words (undone_over (course_of mon)).0
plain_words steps to.Back mon = back_words (undone 1 (course_of mon)).0
plain_words steps to.BackToStop mon
    = stop_words (undone_by_watches mon.stops (course_of mon)).0

abbrev pub run_moved_words : Option ℕ → MonState → List ℕ
run_moved_words steps mon = if run_goes_on steps mon
    then on_words (run_arrival mon).0.why (plain_words None to.Go mon)
    else plain_words steps to.Go mon

abbrev pub back_moved_words : MonState → List ℕ
back_moved_words mon = if back_goes_on mon then watch_words (back_from_watch mon).0
    else stop_words (to_watch mon).0

abbrev pub moved_words : Option ℕ → Move → MonState → List ℕ
moved_words steps to.Over mon = if goes_by_lines mon then line_words (line_over mon).0.why
    else plain_words steps to.Over mon
moved_words steps to.In mon = if goes_by_lines mon then line_words (line_in mon).0.why
    else plain_words steps to.In mon
moved_words steps to.BackOver mon = if goes_by_lines mon then back_words (line_back mon).0
    else plain_words steps to.BackOver mon
moved_words steps to.Go mon = run_moved_words steps mon
moved_words steps to.BackToStop mon = back_moved_words mon
moved_words steps way mon = plain_words steps way mon

-- Why a step is refused, if one is.
abbrev pub plain_fault : Option ℕ → Move → MonState → Option EventFault
plain_fault steps to.Over mon = fault_of (over_end mon)
plain_fault steps to.In mon = fault_of (step_end mon)
plain_fault steps to.Step mon = fault_of (step_end mon)
plain_fault steps to.Out mon = fault_of (out_end mon)
plain_fault steps to.Go mon = fault_of (run_end steps mon)
plain_fault steps way mon = None

abbrev pub run_moved_fault : Option ℕ → MonState → Option EventFault
run_moved_fault steps mon = if run_goes_on steps mon
    then on_fault (run_arrival mon).0.why (plain_fault None to.Go mon)
    else plain_fault steps to.Go mon

abbrev pub moved_fault : Option ℕ → Move → MonState → Option EventFault
moved_fault steps to.Over mon = if goes_by_lines mon then fault_of (line_over mon).0.why
    else plain_fault steps to.Over mon
moved_fault steps to.In mon = if goes_by_lines mon then fault_of (line_in mon).0.why
    else plain_fault steps to.In mon
moved_fault steps to.Go mon = run_moved_fault steps mon
moved_fault steps way mon = plain_fault steps way mon
