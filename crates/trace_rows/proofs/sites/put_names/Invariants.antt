use Rattle.std.proofs.Common.{take, map}
use Rattle.std.specs.Option.{option_or}
use Rattle.trace_rows.specs.Sites.{IsTable, addresses_of, first_at, index_at, labelled}
use Rattle.trace_rows.proofs.sites.put_names.Given as goal

abbrev pub invariant-loop-index : goal.invariant-loop-index
invariant-loop-index l = IsTable l.table.items (λ address. option_or (index_at l.initial.table.items address)
    (first_at (take l.index (addresses_of (map labelled l.names))) address))
