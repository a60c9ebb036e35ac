-- Why the machine stands, by the reasons of the protocol. Source: Debug Adapter Protocol 1.65,
-- "Stopped Event"; which end of a run has which reason, mos65.
use Rattle.std.specs.Prelude.{ℕ, ◌==◌, nat_eq, if◌then◌else◌, List, codes, length, Option, Some, None}
use Rattle.std.specs.List.{list_any}
use Rattle.dap_desk.specs.declared.halts.TheConstants.{OLDEST}
use Rattle.dap_messages.specs.declared.halt.Reason.{Reason}
use Rattle.dap_messages.specs.declared.halt.Reason.TheVariants as reason
use Rattle.model.specs.Session.{Session}
use Rattle.model.specs.declared.event.EventFault.{EventFault}
use Rattle.model.specs.declared.run_end.Why.{Why}
use Rattle.model.specs.declared.run_end.Why.TheVariants as why
use Rattle.mon_runs.specs.declared.ended.EndWhy.{EndWhy}
use Rattle.mon_runs.specs.declared.ended.EndWhy.TheVariants as end
use Rattle.mon_steps.specs.declared.wording.TheConstants.{NO_HANDLER, NO_STOP, RETURNED, STUCK, WAITS}

-- ---- how a run has ended

abbrev pub stopped_reason : Why → Reason
stopped_reason (why.Break address) = reason.Breakpoint
stopped_reason (why.Watch address) = reason.DataBreakpoint
stopped_reason why.Limit = reason.Step
stopped_reason (why.Refused fault) = reason.Exception

abbrev pub stopped_fault : Why → Option EventFault
stopped_fault (why.Refused fault) = Some fault
stopped_fault other = None

abbrev pub reason_of : EndWhy → Reason
reason_of end.Met = reason.Step
reason_of (end.Stopped stop) = stopped_reason stop
reason_of end.Many = reason.NoStop
reason_of (end.Read address) = reason.DataBreakpoint
reason_of (end.Written address) = reason.DataBreakpoint
reason_of (end.Changed change) = reason.DataBreakpoint
reason_of end.Stuck = reason.Pause
reason_of end.NoHandler = reason.Pause
reason_of end.Waits = reason.Pause

abbrev pub fault_of : EndWhy → Option EventFault
fault_of (end.Stopped stop) = stopped_fault stop
fault_of other = None

-- A run that makes all its steps has not stopped.
abbrev pub run_reason : EndWhy → Reason
run_reason (end.Stopped why.Limit) = reason.NoStop
run_reason other = reason_of other

-- In words.
abbrev pub stopped_words : Why → List ℕ
stopped_words (why.Break address) = codes "a break"
stopped_words (why.Watch address) = codes "a watched byte has changed"
stopped_words why.Limit = codes "step"
stopped_words (why.Refused fault) = codes "a step is refused"

abbrev pub words_of : EndWhy → List ℕ
words_of end.Met = RETURNED.now
words_of (end.Stopped stop) = stopped_words stop
words_of end.Many = NO_STOP.now
words_of (end.Read address) = codes "a watched byte was read"
words_of (end.Written address) = codes "a watched byte was written"
words_of (end.Changed change) = codes "a watched register has changed"
words_of end.Stuck = STUCK.now
words_of end.NoHandler = NO_HANDLER.now
words_of end.Waits = WAITS.now

-- At a line a step has ended.
abbrev pub line_words : EndWhy → List ℕ
line_words end.Met = codes "step"
line_words other = words_of other

abbrev pub run_words : EndWhy → List ℕ
run_words (end.Stopped why.Limit) = NO_STOP.now
run_words other = words_of other

-- ---- how a way back has ended

abbrev pub back_reason : Session → Reason
back_reason session = if length session.earlier == 0 then reason.Entry else reason.Step

abbrev pub stop_reason : Session → Reason
stop_reason session = if length session.earlier == 0 then reason.Entry
    else if list_any (nat_eq session.current.regs.pc) session.breaks then reason.Breakpoint
    else reason.DataBreakpoint

-- In words.
abbrev pub back_words : Session → List ℕ
back_words session = if length session.earlier == 0 then OLDEST.now else codes "back"

abbrev pub stop_words : Session → List ℕ
stop_words session = if length session.earlier == 0 then OLDEST.now
    else if list_any (nat_eq session.current.regs.pc) session.breaks then codes "back at a break"
    else codes "back before a change at a watch"
