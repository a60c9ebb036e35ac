use Rattle.trace_rows.proofs.Places.{zeros}
use Rattle.trace_rows.proofs.sites.empty_table.Goals as goal

pub returns-in-Ok : goal.returns-in-Ok
returns-in-Ok c = zeros c.in-Ok.table.items (c.in-Ok.ensures.items_if_clones_equal (λ y h. h))
