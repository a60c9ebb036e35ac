use Rattle.std.proofs.Common.{take, map}
use Rattle.std.specs.Option.{option_or}
use Rattle.trace_rows.specs.SourceLines.{listed}
use Rattle.trace_rows.specs.Sites.{IsTable, first_at, index_at, line_addresses}
use Rattle.trace_rows.proofs.sites.table_of_lines.Given as goal

abbrev pub invariant-loop-index : goal.invariant-loop-index
invariant-loop-index l = IsTable l.table.items (λ address. option_or (index_at l.initial.table.items address)
    (first_at (take l.index (line_addresses (map listed l.lines))) address))
