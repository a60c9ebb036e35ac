use Rattle.std.proofs.Common.{arith}
use Rattle.mon_settings.proofs.BreakList.{found, not_here, nowhere}
use Rattle.mon_settings.proofs.breaks.has_break.Goals as goal

pub returns-then-eq : goal.returns-then-eq
returns-then-eq c = found _ _ c.loop-index.index _ c.loop-index.invariant
    (omega (arith, c.loop-index-test.true, c.break_count-index-end.ensures)) (cc)

pub loop-index-preserved : goal.loop-index-preserved
loop-index-preserved c = not_here _ _ c.loop-index.index _ c.loop-index.invariant
    (omega (arith, c.loop-index-test.true, c.break_count-index-end.ensures)) (cc)

pub returns : goal.returns
returns c = nowhere _ _ c.loop-index.index _ c.loop-index.invariant
    (omega (arith, c.loop-index-test.false, c.break_count-index-end.ensures))
