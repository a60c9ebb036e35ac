use Rattle.std.proofs.Common.{arith}
use Rattle.assembler.specs.Assembly.{source_lines}
use Rattle.remarked_source.proofs.SplitTables.{bytes_more}
use Rattle.remarked_source.proofs.splits.push_byte_lines.Goals as goal

pub loop-offset-preserved : goal.loop-offset-preserved
loop-offset-preserved c =
    let t = c.args.tables in
    bytes_more t.cells.now t.splits.now (source_lines t.assembly.now) c.args.line.count c.args.line.address c.loop-offset.offset
    c.loop-offset.out.items c.push_byte_line.new.out.items _ (omega arith) c.in_ok-push_byte_line.ensures c.loop-offset.invariant
