use Rattle.std.proofs.Common.{map}
use Rattle.trace_rows.specs.Sites.{addresses_of, index_at, labelled}
use Rattle.trace_rows.proofs.Places.{all_rows, label_row, label_rows, label_size, no_rows, row_more}
use Rattle.trace_rows.proofs.sites.put_names.Goals as goal

pub loop-index-init : goal.loop-index-init
loop-index-init c = no_rows c.args.table.now.items (addresses_of (map labelled c.args.names.now)) c.requires

pub loop-index-preserved : goal.loop-index-preserved
loop-index-preserved c =
    let names = c.args.names.now in
    let i = c.loop-index.index in
    let name = c.index-names-index.result in
    row_more (index_at c.args.table.now.items) c.loop-index.table.items c.put_first.new.table.items (addresses_of (map labelled names)) i name.address
    (label_size names i c.loop-index-test.true) (label_row names i name c.loop-index-test.true c.index-names-index.is) c.put_first.ensures
    c.loop-index.invariant

pub returns : goal.returns
returns c = all_rows (index_at c.args.table.now.items) c.loop-index.table.items (addresses_of (map labelled c.args.names.now)) c.loop-index.index
    (label_rows c.args.names.now c.loop-index.index c.loop-index-test.false) c.loop-index.invariant
