use Rattle.std.proofs.Common.{arith}
use Rattle.mon_screen.proofs.Lines.{all_counted, next_counted}
use Rattle.mon_screen.proofs.cells.line_count.Goals as goal

pub loop-byte-preserved : goal.loop-byte-preserved
loop-byte-preserved c = record {
  few = omega (arith, c.loop-byte.invariant.few, c.ending-count.ensures.few);
  counted = next_counted c.args.text.now c.loop-byte.byte-index c.loop-byte.count _ _ c.loop-byte-test.true
      c.ending-count.ensures.value c.loop-byte.invariant.counted;
}

pub returns : goal.returns
returns c = all_counted c.args.text.now c.loop-byte.byte-index _ _ c.loop-byte-test.false c.loop-byte.invariant.counted
