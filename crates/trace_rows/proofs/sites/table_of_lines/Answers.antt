use Rattle.std.proofs.Common.{map}
use Rattle.trace_rows.specs.SourceLines.{listed}
use Rattle.trace_rows.specs.Sites.{index_at, line_addresses}
use Rattle.trace_rows.proofs.Places.{all_rows, line_row, line_rows, line_size, no_rows, over_none, row_more}
use Rattle.trace_rows.proofs.sites.table_of_lines.Goals as goal

pub loop-index-init : goal.loop-index-init
loop-index-init c = no_rows c.in_ok-table.table.items (line_addresses (map listed c.args.lines.now)) c.in_ok-table.ensures.size

pub loop-index-preserved : goal.loop-index-preserved
loop-index-preserved c =
    let lines = c.args.lines.now in
    let i = c.loop-index.index in
    let line = c.index-lines-index.result in
    row_more (index_at c.in_ok-table.table.items) c.loop-index.table.items c.put_first.new.table.items (line_addresses (map listed lines)) i line.address
    (line_size lines i c.loop-index-test.true) (line_row lines i line c.loop-index-test.true c.index-lines-index.is) c.put_first.ensures c.loop-index.invariant

pub returns : goal.returns
returns c = over_none c.in_ok-table.table.items c.loop-index.table.items _ c.in_ok-table.ensures
    (all_rows (index_at c.in_ok-table.table.items) c.loop-index.table.items (line_addresses (map listed c.args.lines.now)) c.loop-index.index
    (line_rows c.args.lines.now c.loop-index.index c.loop-index-test.false) c.loop-index.invariant)
