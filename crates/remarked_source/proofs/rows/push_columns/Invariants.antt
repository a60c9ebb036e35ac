use Rattle.std.proofs.Common.{◌≡◌, ◌++◌, ◌-◌, ◌+◌}
use Rattle.remarked_source.specs.Rows.{byte_columns}
use Rattle.remarked_source.proofs.rows.push_columns.Given as goal

abbrev pub invariant-loop-offset : goal.invariant-loop-offset
invariant-loop-offset l = l.out.items ++ byte_columns l.cells (l.count - l.offset) (l.address + l.offset) ≡ l.fn.out.items
    ++ byte_columns l.cells l.count l.address
