use Rattle.std.proofs.Common.{◌≡◌, ◌-◌}
use Rattle.std.specs.Prelude.{codes}
use Rattle.trace_rows.specs.Counts.{elsewhere_rows, with_elsewhere, with_head}
use Rattle.trace_rows.proofs.Tables.{with_rest}
use Rattle.trace_rows.proofs.counts.push_elsewhere.Given as goal

abbrev pub invariant-loop-place : goal.invariant-loop-place
invariant-loop-place l = with_rest l.is_first l.text.items (with_head (codes "address") l.text.items)
    (elsewhere_rows l.sites l.tally l.place (65536 - l.place)) ≡ with_elsewhere l.sites l.tally l.initial.text.items
