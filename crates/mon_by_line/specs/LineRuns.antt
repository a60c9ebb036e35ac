-- Runs to where another line of a source begins. Source: mos65.
use Rattle.std.specs.Prelude.{ℕ, Bool, true, false, is_some, List, Option, None, unwrap_or}
use Rattle.line_steps.specs.Forwards.{is_line_on}
use Rattle.line_steps.specs.Numbers.{first_to}
use Rattle.line_steps.specs.declared.lines.FileLine.{FileLine}
use Rattle.line_steps.specs.declared.lines.LineStart.{LineStart}
use Rattle.mon_runs.specs.Looked.{Arrival, Place, looked_run}
use Rattle.mon_runs.specs.declared.ended.EndWhy.{EndWhy}
use Rattle.mon_runs.specs.declared.ended.EndWhy.TheVariants as end_why
use Rattle.mon_runs.specs.declared.looked.Goal.TheVariants.{Rest}
use Rattle.mon_runs.specs.declared.watches.Watch.{Watch}

-- Why a run ends that made all its steps: at the line, if they lead to one.
abbrev pub or_line : EndWhy → Bool → EndWhy
or_line end_why.Many true = end_why.Met
or_line why is_line = why

abbrev pub arrived_by : Bool → Arrival → Arrival
arrived_by is_line arrival = (
  record {
    did = arrival.0.did;
    why = or_line arrival.0.why is_line;
    from = arrival.0.from;
  },
  arrival.1,
)

-- A run as `go`, but of as many steps as lead to the first later state at which another line than
-- `line` begins, and that is within no call of the run: of `limit` steps, if none of them does.
unfoldable pub line_run : List LineStart → Option FileLine → ℕ → List Watch → Place → Arrival
line_run lines line limit watches place =
    let found = first_to limit (is_line_on lines line place.0) in
    arrived_by (is_some found) (looked_run watches Rest None (unwrap_or found limit) place)
