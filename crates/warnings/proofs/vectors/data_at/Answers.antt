use Rattle.std.proofs.Common.{arith, sym, ◌+◌, ◌∙◌}
use Rattle.warnings.proofs.Leading.{data_here, data_later, data_nowhere}
use Rattle.warnings.proofs.vectors.data_at.Goals as goal

pub returns-then-has_byte_at : goal.returns-then-has_byte_at
returns-then-has_byte_at c =
    data_here c.args.address c.args.lines.now c.loop-one.one-index (c.loop-one.number + 1) c.one-item.result _ c.if_data.result c.loop-one-test.true
    c.one-item.is (omega (arith, c.loop-one.invariant.count))
    (sym c.has_byte_at.ensures ∙ c.if-has_byte_at.true) c.if_data.ensures c.loop-one.invariant.left

pub loop-one-preserved : goal.loop-one-preserved
loop-one-preserved c = record {
  left = data_later c.args.address c.args.lines.now c.loop-one.one-index c.one-item.result _ c.loop-one-test.true c.one-item.is
      (sym c.has_byte_at.ensures ∙ c.if-has_byte_at.false) c.loop-one.invariant.left;
  count = omega (arith, c.loop-one.invariant.count);
}

pub returns : goal.returns
returns c = data_nowhere c.args.address c.args.lines.now c.loop-one.one-index _ (omega (arith, c.loop-one-test.false)) c.loop-one.invariant.left
