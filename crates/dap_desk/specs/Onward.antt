-- A watch that stops in code without lines, as a library, which a line has called: forwards it goes on
-- to the return, and back to the call. Source: mos65.
use Rattle.std.specs.Prelude.{ℕ, zero, suc, ◌+◌, ◌-◌, ◌==◌, ◌&&◌, ◌||◌, not, is_some, Bool, false, if◌then◌else◌, List, codes, length, map, Option, None}
use Rattle.dap_desk.specs.Halts.{fault_of, reason_of, words_of}
use Rattle.dap_desk.specs.declared.halts.TheConstants.{OLDEST}
use Rattle.dap_messages.specs.declared.halt.Reason.{Reason}
use Rattle.dap_messages.specs.declared.halt.Reason.TheVariants as reason
use Rattle.line_steps.specs.declared.lines.LineStart.{LineStart}
use Rattle.model.specs.Session.{Session}
use Rattle.model.specs.State.{State}
use Rattle.model.specs.declared.event.EventFault.{EventFault}
use Rattle.mon_by_line.specs.LineRuns.{line_run}
use Rattle.mon_runs.specs.Looked.{Arrival}
use Rattle.mon_runs.specs.PastBreaks.{most_steps}
use Rattle.mon_runs.specs.declared.ended.EndWhy.{EndWhy}
use Rattle.mon_runs.specs.declared.ended.EndWhy.TheVariants.{Met}
use Rattle.mon_runs.specs.declared.watches.Watch.{Watch}
use Rattle.mon_steps.specs.RunLines.{Stand, start_of}
use Rattle.mon_texts.specs.Pushed.{pushed_at}
use Rattle.mon_texts.specs.declared.pushed.Pushed.{Pushed}
use Rattle.mon_texts.specs.declared.pushed.Pushed.TheVariants.{Call}
use Rattle.source_map.specs.Lines.{PlacesView, row_at}
use Rattle.source_map.specs.declared.rows.Row.{Row}

-- ---- where it goes on

-- Whether a line has made a call.
abbrev pub is_line_call : List Row → Pushed → Bool
is_line_call lines (Call address) = is_some (row_at lines address)
is_line_call lines other = false

-- Whether one of n bytes of the stack, from an address on, is the first that such a call has pushed.
unfoldable pub has_line_call : ℕ → List ℕ → List Row → ℕ → Bool
has_line_call zero memory lines address = false
has_line_call (suc n) memory lines address = is_line_call lines (pushed_at memory lines address)
    || has_line_call n memory lines (address + 1)

-- Whether a line has made a call that is on the stack, which has these bytes from an address on.
abbrev pub is_called : List ℕ → List Row → ℕ → Bool
is_called memory lines address = has_line_call (512 - address) memory lines address

-- Whether a state is in code without lines, of a program that another tool has built, and a line has
-- called it.
abbrev pub is_below_line : PlacesView → State → Bool
is_below_line places state = not places.is_whole
    && not (is_some (row_at places.lines state.regs.pc))
    && is_called state.bus.memory places.lines (257 + state.regs.s)

abbrev pub goes_on : PlacesView → Reason → State → Bool
goes_on places reason.DataBreakpoint state = is_below_line places state
goes_on places other state = false

-- ---- whereto

-- Wherever a row begins.
abbrev pub row_start : Row → LineStart
row_start row = record {
  address = row.address;
  line = record { file = row.file; line = row.line };
}

abbrev pub row_starts : List Row → List LineStart
row_starts rows = map row_start rows

-- Forwards to the first later state that has a line and is within no call of the run.
abbrev pub on_arrival : List LineStart → List Watch → Stand → Arrival
on_arrival starts watches stand = line_run starts None most_steps watches (start_of stand)

-- ---- why the machine stands then: as before at the line, or else as the run has ended

abbrev pub on_reason : EndWhy → Reason → Reason
on_reason Met reason = reason
on_reason why reason = reason_of why

abbrev pub on_words : EndWhy → List ℕ → List ℕ
on_words Met words = words
on_words why words = words_of why

abbrev pub on_fault : EndWhy → Option EventFault → Option EventFault
on_fault Met fault = fault
on_fault why fault = fault_of why

-- Back to a line, unless that is no longer held.
abbrev pub watch_reason : Session → Reason
watch_reason session = if length session.earlier == 0 then reason.Entry else reason.DataBreakpoint

abbrev pub watch_words : Session → List ℕ
watch_words session = if length session.earlier == 0 then OLDEST.now
    else codes "back before a change at a watch"
