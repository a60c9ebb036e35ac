use Rattle.std.proofs.Common.{◌++◌, arith}
use Rattle.remarked_source.specs.Rows.{byte_columns}
use Rattle.remarked_source.proofs.Columns.{columns_more}
use Rattle.remarked_source.proofs.rows.push_columns.Goals as goal

pub loop-offset-preserved : goal.loop-offset-preserved
loop-offset-preserved c =
    columns_more c.args.cells.now c.args.count c.args.address c.loop-offset.offset c.loop-offset.out.items c.push_column.new.out.items
    (c.args.out.now.items ++ byte_columns c.args.cells.now c.args.count c.args.address) (omega arith) c.in_ok-push_column.ensures c.loop-offset.invariant
