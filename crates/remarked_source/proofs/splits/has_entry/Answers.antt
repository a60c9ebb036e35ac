use Rattle.std.proofs.Common.{◌≡◌, arith, rules}
use Rattle.remarked_source.proofs.SplitTables.{entry_here, entry_more, no_entry}
use Rattle.remarked_source.proofs.splits.has_entry.Goals as goal

pub returns-then-is_some : goal.returns-then-is_some
returns-then-is_some c = entry_here c.args.cells.now c.args.splits.now c.args.count c.args.address c.loop-offset.offset _ (omega arith) (search rules)
    c.loop-offset.invariant

pub loop-offset-preserved : goal.loop-offset-preserved
loop-offset-preserved c = entry_more c.args.cells.now c.args.splits.now c.args.count c.args.address c.loop-offset.offset _ (omega arith)
    (search rules) c.loop-offset.invariant

pub returns : goal.returns
returns c = no_entry c.args.cells.now c.args.splits.now c.args.count c.args.address c.loop-offset.offset _ (omega arith) c.loop-offset.invariant
