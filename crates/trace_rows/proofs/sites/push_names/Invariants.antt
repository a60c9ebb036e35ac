use Rattle.std.proofs.Common.{◌≡◌, ◌++◌, take, map}
use Rattle.source_map.specs.Names.{named_numbers}
use Rattle.trace_rows.specs.Sites.{index_at, labelled, names_of}
use Rattle.trace_rows.proofs.sites.push_names.Given as goal

abbrev pub invariant-loop-index : goal.invariant-loop-index
invariant-loop-index l = map labelled l.names.items ≡ map labelled l.initial.names.items
    ++ names_of l.assembly.image (index_at l.table.items) l.labels (take l.index (named_numbers l.assembly))
