use Rattle.std.proofs.Common.{arith}
use Rattle.warnings.proofs.Using.{lines_done, lines_on}
use Rattle.warnings.proofs.used_names.used_by.Goals as goal

pub loop-one-preserved : goal.loop-one-preserved
loop-one-preserved c = lines_on c.args.lines.now c.loop-one.one-index c.one-item.result c.loop-one.names c.note_line.new.names _ c.loop-one-test.true
    c.one-item.is c.in_ok-note_line.ensures c.loop-one.invariant

pub returns : goal.returns
returns c = lines_done c.args.lines.now c.loop-one.one-index c.loop-one.names _ (omega (arith, c.loop-one-test.false)) c.loop-one.invariant
