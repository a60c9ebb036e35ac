-- How often steps begin at each address in the calls of a row. Source: mos65.
use Rattle.std.specs.Prelude.{ℕ, zero, suc, ◌+◌, ◌==◌, ◌&&◌, Bool, false, if◌then◌else◌, List, [], ◌∷◌, Option, Some, None, Result, Ok, Err}
use Rattle.accesses.specs.Moments.{entered, moment_of}
use Rattle.accesses.specs.Tallies.{Counts, noted}
use Rattle.model.specs.Session.{Session, with_state}
use Rattle.model.specs.State.{State}
use Rattle.model.specs.Step.{step}
use Rattle.model.specs.declared.event.EventFault.{EventFault}
use Rattle.model.specs.declared.run_end.RunEnd.{RunEnd}
use Rattle.model.specs.declared.session_fault.SessionFault.{SessionFault}
use Rattle.rig.specs.Subroutine.{return_address}
use Rattle.t65_reader.specs.RowText.{SeenCall, SeenRow}
use Rattle.t65_reader.specs.declared.row.Request.{Request}
use Rattle.t65_reader.specs.declared.row.Signal.{Signal}
use Rattle.t65_runner.specs.Passes.{awaited_of, given_all, ran, rows_run}
use Rattle.t65_runner.specs.Requests.{after_arrival, is_due_in}
use Rattle.t65_runner.specs.declared.requests.Awaited.{Awaited}
use Rattle.t65_runner.specs.RangeValues.{count_of, values_at}
use Rattle.t65_runner.specs.declared.range_values.Values.{Values}

-- A session, and how often steps began at each address.
pub record Counted : Type 0 where
  pub session : Session
  pub counts : Counts

abbrev pub counted_at : Session → Counts → Counted
counted_at s counts = record { session = s; counts = counts }

-- A step counts where it began, unless an interrupt came in place of the instruction.
abbrev pub counts_with : State → State → Counts → Counts
counts_with before after counts = if entered (moment_of before) after then counts
    else noted counts before.regs.pc 0

abbrev pub one_counted : Counted → State → Counted
one_counted c after = record {
  session = with_state c.session after;
  counts = counts_with c.session.current after c.counts;
}

-- Steps that were counted, and how many are left after an interrupt that is due, if it is.
abbrev pub Part : Type 0
Part = Option ℕ × Counted

-- The steps of a call go on until one is rejected, or leads back.
abbrev pub counted_on : Counted → (Counted → Part) → Result State EventFault → Part
counted_on c next (Err fault) = (None, c)
counted_on c next (Ok after) = if after.regs.pc == return_address then (None, one_counted c after)
    else next (one_counted c after)

-- So many steps at most are made and counted, until an interrupt is due.
unfoldable pub steps_counted : Option Awaited → ℕ → Counted → Part
steps_counted awaited zero c = (None, c)
steps_counted awaited (suc n) c = if is_due_in awaited c.session.current then (Some n, c)
    else counted_on c (steps_counted awaited n) (step c.session.current)

abbrev pub arrived : Signal → Counted → Counted
arrived signal c = record { session = after_arrival signal c.session; counts = c.counts }

-- After an interrupt has come, the steps that are left are counted.
abbrev pub counted_after : Option Awaited → Part → Counted
counted_after (Some awaited) (Some left, c)
    = (steps_counted None left (arrived awaited.signal c)).1
counted_after awaited (left, c) = c

-- The steps of a call, and those of an interrupt that comes into it.
unfoldable pub all_counted : Option Awaited → ℕ → Counted → Counted
all_counted awaited steps c = counted_after awaited (steps_counted awaited steps c)

abbrev pub awaited_in : Values → State → Option Request → Option Awaited
awaited_in values s None = None
awaited_in values s (Some request) = Some (awaited_of values s request)

abbrev pub counted_from : Values → SeenCall → Counts → Result (RunEnd × Session) SessionFault
    → Option Counted
counted_from values call counts (Ok entered) = Some (all_counted
    (awaited_in values entered.1.current call.request) call.steps (counted_at entered.1 counts))
counted_from values call counts (Err fault) = None

abbrev pub counted_given : Values → SeenCall → Counts → Option Session → Option Counted
counted_given values call counts None = None
counted_given values call counts (Some s)
    = counted_from values call counts (ran call.entry call.address 0 s)

-- A call whose items can be given is made and counted; otherwise it is not made.
unfoldable pub call_counted : Values → SeenCall → Counted → Option Counted
call_counted values call c
    = counted_given values call c.counts (given_all values call.given c.session)

abbrev pub has_returned : Counted → Bool
has_returned c = c.session.current.regs.pc == return_address

abbrev pub if_returned : Counts → (Counted → Counts) → Option Counted → Counts
if_returned counts next None = counts
if_returned counts next (Some c) = if has_returned c then next c else c.counts

-- The calls of rows are counted one after another, up to the first that is not made or does not
-- return.
unfoldable pub rows_counted : Values → List (ℕ × SeenRow) → Counted → Counts
rows_counted values [] c = c.counts
rows_counted values (row ∷ rows) c
    = if_returned c.counts (rows_counted values rows) (call_counted values row.1.call c)

-- ---- all values of a test

abbrev pub are_same : Values → Values → Bool
are_same one other = (one.first == other.first) && (one.second == other.second)
    && (one.third == other.third) && (one.fourth == other.fourth) && (one.number == other.number)

-- The values for which a test fails are its last.
abbrev pub is_last : Option Values → Values → Bool
is_last None values = false
is_last (Some failed) values = are_same failed values

-- So many calls of a test from a number on, each from a session; those for the last values are
-- counted otherwise.
unfoldable pub counted_in : (ℕ → Values) → (one last : Values → Counts → Counts) → Option Values → ℕ
    → ℕ → Counts → Counts
counted_in at one last failed zero number counts = counts
counted_in at one last failed (suc n) number counts = if is_last failed (at number)
    then last (at number) counts
    else counted_in at one last failed n (number + 1) (one (at number) counts)

abbrev pub counted_by : List (ℕ × SeenRow) → Session → Values → Counts → Counts
counted_by rows s values counts
    = rows_counted values rows (counted_at s counts)

-- Of the calls for values for which a test fails, the first that fails is the last.
abbrev pub counted_to_failure : List (ℕ × SeenRow) → Session → Values → Counts → Counts
counted_to_failure rows s values counts = counted_by (rows_run values rows s) s values counts

-- The counts after the rows of a test have been run for its values, up to those for which it fails,
-- each time from a session on; for these up to the row that fails.
unfoldable pub test_counted : SeenRow → List (ℕ × SeenRow) → Session → Option Values → Counts
    → Counts
test_counted row rows s failed counts
    = counted_in (values_at row.ranges row.choice) (counted_by rows s) (counted_to_failure rows s)
    failed (count_of row.ranges row.choice) 0 counts
