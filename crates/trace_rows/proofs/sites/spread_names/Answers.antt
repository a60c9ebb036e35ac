use Rattle.std.proofs.Common.{List, map, subst}
use Rattle.std.specs.Option.{option_or}
use Rattle.trace_rows.specs.declared.sites.Label.{Label}
use Rattle.trace_rows.specs.Sites.{IsTable, addresses_of, first_at, index_at, labelled}
use Rattle.trace_rows.proofs.Places.{spread_table}
use Rattle.trace_rows.proofs.sites.spread_names.Goals as goal

pub returns-clause-table : goal.returns-clause-table
returns-clause-table c = spread_table c.args.assembly.now.image c.put_names.new.table.items c.spread.new.table.items _
    (subst (λ (names : List Label). IsTable c.put_names.new.table.items
    (λ address. option_or (index_at c.args.table.now.items address) (first_at (addresses_of (map labelled names)) address)))
    c.as_slice.ensures.value c.put_names.ensures)
    c.spread.ensures
