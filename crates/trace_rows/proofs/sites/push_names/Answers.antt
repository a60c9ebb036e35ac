use Rattle.std.proofs.Common.{map, length, arith}
use Rattle.std.proofs.Math.Nat.{min-le_left}
use Rattle.std.proofs.lemmas.Slice.Zip.{length-zip}
use Rattle.source_map.specs.Names.{named_numbers}
use Rattle.trace_rows.specs.Sites.{index_at, labelled}
use Rattle.trace_rows.proofs.Places.{names_all, names_more, names_none}
use Rattle.trace_rows.proofs.sites.push_names.Goals as goal

pub loop-index-init : goal.loop-index-init
loop-index-init c = names_none c.args.assembly.now.image (index_at c.args.table.now.items) c.args.labels (named_numbers c.args.assembly.now)
    (map labelled c.args.names.now.items)

pub loop-index-preserved : goal.loop-index-preserved
loop-index-preserved c = names_more c.args.assembly.now.image (index_at c.args.table.now.items) c.args.labels (named_numbers c.args.assembly.now)
    c.loop-index.index (map labelled c.args.names.now.items)
    (map labelled c.loop-index.names.items) (map labelled c.push_name_at.new.names.items) c.loop-index.invariant c.in_ok-push_name_at.ensures

pub returns : goal.returns
returns c =
    let a = c.args.assembly.now in
    names_all a.image (index_at c.args.table.now.items) c.args.labels (named_numbers a) c.loop-index.index (map labelled c.args.names.now.items)
    (map labelled c.loop-index.names.items)
    (omega (arith, length-zip a.names a.labels, min-le_left (length a.names) (length a.labels))) c.loop-index.invariant
