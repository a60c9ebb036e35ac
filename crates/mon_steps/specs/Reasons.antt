-- Why a run has ended, and after how many steps. Source: mos65.
use Rattle.std.specs.Prelude.{ℕ, ◌==◌, if◌then◌else◌, List, ◌++◌, Option, codes, decimal, slice_index}
use Rattle.model.specs.State.{State}
use Rattle.model.specs.Text.{hex_byte}
use Rattle.model.specs.declared.run_end.Why.{Why}
use Rattle.model.specs.declared.run_end.Why.TheVariants.{Watch, Break, Limit, Refused}
use Rattle.mon_runs.specs.declared.ended.EndWhy.{EndWhy}
use Rattle.mon_runs.specs.declared.ended.EndWhy.TheVariants as end_why
use Rattle.mon_runs.specs.declared.ended.Ended.{Ended}
use Rattle.source_map.specs.Lines.{PlacesView}
use Rattle.source_map.specs.Names.{Named}
use Rattle.mon_session.specs.Faults.{fault_text}
use Rattle.mon_instructions.specs.Places.{place_text}
use Rattle.mon_texts.specs.Stops.{number_text, register_name}
use Rattle.mon_runs.specs.declared.changes.RegisterChange.{RegisterChange}
use Rattle.mon_texts.specs.declared.wording.TheConstants.{BREAK_AT}
use Rattle.mon_steps.specs.SourceLines.{line_here}
use Rattle.mon_steps.specs.Strays.{unserved_text}
use Rattle.mon_steps.specs.declared.wording.TheConstants.{AFTER, AND_IS_NOW, DONE, IS_NOW, NO_STOP, RETURNED, STEP, STEPS, STUCK, WAITS, WAS, WATCH, WATCHED_READ, WATCHED_WRITE}

abbrev pub break_text : List Named → ℕ → List ℕ
break_text names address = BREAK_AT.now ++ place_text names address

-- What has stopped a run.
abbrev pub stop_text : List ℕ → List Named → Why → List ℕ
stop_text memory names (Break address) = break_text names address
stop_text memory names (Watch address) = WATCH.now ++ place_text names address
    ++ IS_NOW.now ++ hex_byte (slice_index memory address)
stop_text memory names Limit = DONE.now
stop_text memory names (Refused fault) = fault_text names fault

-- What a watched register was, and what it is now.
unfoldable pub change_text : RegisterChange → List ℕ
change_text change = WATCH.now ++ (register_name change.register ++ (WAS.now
    ++ (number_text change.before ++ (AND_IS_NOW.now ++ number_text change.after))))

-- Why a run has ended, whose last step was made at `from`, if that is known. Only a run out of a
-- subroutine has a goal to meet.
abbrev pub why_text : State → PlacesView → Option ℕ → EndWhy → List ℕ
why_text state places from end_why.Met = RETURNED.now
why_text state places from (end_why.Stopped why) = stop_text state.bus.memory places.names why
why_text state places from end_why.Many = NO_STOP.now
why_text state places from (end_why.Read at) = WATCHED_READ.now ++ place_text places.names at
why_text state places from (end_why.Written at)
    = WATCHED_WRITE.now ++ place_text places.names at
why_text state places from (end_why.Changed change) = change_text change
why_text state places from end_why.Stuck = STUCK.now
why_text state places from end_why.NoHandler = unserved_text places from state.regs.pc
why_text state places from end_why.Waits = WAITS.now

-- How many steps were made.
abbrev pub steps_text : ℕ → List ℕ
steps_text count = decimal count ++ (if count == 1 then STEP.now else STEPS.now)

-- After how many steps a run has ended.
abbrev pub after_text : ℕ → List ℕ
after_text count = AFTER.now ++ steps_text count ++ codes "\n"

-- The line that says how a run has ended, and the line of the source that it led to.
abbrev pub end_line : State → PlacesView → Ended → List ℕ
end_line state places end = why_text state places end.from end.why
    ++ (after_text end.did ++ line_here state places)
