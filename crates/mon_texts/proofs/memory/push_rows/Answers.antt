use Rattle.std.proofs.Common.{◌+◌, ◌/◌, arith}
use Rattle.mon_texts.specs.Memory.{numbered_row}
use Rattle.mon_texts.proofs.Bytes.{one_more_row, all_rows}
use Rattle.mon_texts.proofs.memory.push_rows.Goals as goal

pub loop-row-preserved : goal.loop-row-preserved
loop-row-preserved c = one_more_row (numbered_row c.args.session.now.current.bus.memory c.args.first c.args.count)
    c.loop-row.row ((c.args.count + 15) / 16) _ _ _ (omega arith) c.in_ok-push_numbered.ensures c.loop-row.invariant

pub returns : goal.returns
returns c = all_rows (numbered_row c.args.session.now.current.bus.memory c.args.first c.args.count)
    c.loop-row.row ((c.args.count + 15) / 16) _ _ (omega arith) c.loop-row.invariant
