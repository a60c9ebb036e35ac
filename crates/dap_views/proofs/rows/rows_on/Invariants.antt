use Rattle.std.proofs.Common.{◌≡◌, ◌-◌}
use Rattle.dap_views.specs.Rows.{rows_on}
use Rattle.dap_views.proofs.rows.rows_on.Given as goal

abbrev pub invariant-loop : goal.invariant-loop
invariant-loop l = rows_on l.mon l.until (l.count - l.counter) l.address ≡ rows_on l.mon l.until l.count l.from
