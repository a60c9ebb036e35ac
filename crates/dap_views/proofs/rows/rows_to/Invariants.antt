use Rattle.std.proofs.Common.{◌≡◌, ◌≤◌, ◌+◌, ◌-◌}
use Rattle.dap_views.specs.Rows.{rows_to}
use Rattle.dap_views.proofs.rows.rows_to.Given as goal

abbrev pub invariant-loop : goal.invariant-loop
invariant-loop l = record {
  count : l.count + rows_to l.mon l.until (l.end - l.counter) l.address ≡ rows_to l.mon l.until (l.until - l.from) l.from;
  most : l.count ≤ l.counter;
}
