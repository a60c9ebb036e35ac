use Rattle.std.proofs.Common.{◌≡◌, ap, map}
use Rattle.trace_rows.specs.Sites.{IsTable, label_place, labelled, labels_in, names_in}
use Rattle.trace_rows.proofs.Places.{first_names, first_places, then_names, then_places}
use Rattle.trace_rows.proofs.sites.names_of_source.Goals as goal

pub returns-clause-labels : goal.returns-clause-labels
returns-clause-labels c =
    let a = c.args.assembly.now in
    let empty = c.in_ok-label_of.label_of.items in
    let first : map labelled c.spread_names.new.names.items ≡ labels_in a =
    first_names a empty (map labelled c.new-labels.result.items) (map labelled c.spread_names.new.names.items) c.in_ok-label_of.ensures
    (ap (map labelled) c.new-labels.ensures.items) c.in_ok-spread_names.ensures.names in
    let table : IsTable c.spread_names.new.table.items (label_place a) =
    first_places a empty c.spread_names.new.table.items (map labelled c.spread_names.new.names.items) c.in_ok-label_of.ensures first
    c.in_ok-spread_names.ensures.table in
    then_names a c.spread_names.new.table.items (map labelled c.spread_names.new.names.items) (map labelled c.spread_names-2.new.names.items) table
    first c.in_ok-spread_names-2.ensures.names

pub returns-clause-label_of : goal.returns-clause-label_of
returns-clause-label_of c =
    let a = c.args.assembly.now in
    let empty = c.in_ok-label_of.label_of.items in
    let first : map labelled c.spread_names.new.names.items ≡ labels_in a =
    first_names a empty (map labelled c.new-labels.result.items) (map labelled c.spread_names.new.names.items) c.in_ok-label_of.ensures
    (ap (map labelled) c.new-labels.ensures.items) c.in_ok-spread_names.ensures.names in
    let table : IsTable c.spread_names.new.table.items (label_place a) =
    first_places a empty c.spread_names.new.table.items (map labelled c.spread_names.new.names.items) c.in_ok-label_of.ensures first
    c.in_ok-spread_names.ensures.table in
    let names : map labelled c.spread_names-2.new.names.items ≡ names_in a =
    then_names a c.spread_names.new.table.items (map labelled c.spread_names.new.names.items) (map labelled c.spread_names-2.new.names.items) table
    first c.in_ok-spread_names-2.ensures.names in
    then_places a c.spread_names.new.table.items c.spread_names-2.new.table.items (map labelled c.spread_names-2.new.names.items) table names
    c.in_ok-spread_names-2.ensures.table
