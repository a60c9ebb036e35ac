use Rattle.std.proofs.Common.{arith, length, true-eqb}
use Rattle.warnings.proofs.Placing.{done, ends, goes_on, left_none, left_on, one_more}
use Rattle.warnings.proofs.placement.place_lines.Goals as goal

pub returns-then-is_empty-clause-lines : goal.returns-then-is_empty-clause-lines
returns-then-is_empty-clause-lines c =
    ends c.args.profile c.loop-one.lines.items c.loop-one.rest.now c.loop-one.one-index c.args.found.now _ (true-eqb _ 0 c.if-is_empty.ensures)
    c.loop-one.invariant.exact

pub returns-then-is_empty-clause-behind : goal.returns-then-is_empty-clause-behind
returns-then-is_empty-clause-behind c =
    left_none c.loop-one.rest.now c.loop-one.one-index (length c.args.found.now) _ (true-eqb _ 0 c.if-is_empty.ensures)
    (omega (arith, c.loop-one-test.true)) c.loop-one.invariant.left

pub loop-one-preserved : goal.loop-one-preserved
loop-one-preserved c = record {
  exact = goes_on c.args.profile c.loop-one.lines.items c.place_line.new.lines.items c.loop-one.rest.now c.next_line.result.0.now
      c.next_line.result.1.now c.loop-one.one-index c.args.found.now c.one-item.result _
      c.next_line.ensures.cut c.loop-one-test.true c.one-item.is c.in_ok-place_line.ensures c.loop-one.invariant.exact;
  left = left_on c.loop-one.rest.now c.next_line.result.0.now c.next_line.result.1.now c.loop-one.one-index _ c.next_line.ensures.cut c.loop-one.invariant.left;
  few = one_more c.loop-one.lines.items c.place_line.new.lines.items _ c.loop-one.one-index c.in_ok-place_line.ensures c.loop-one.invariant.few;
  short = omega (arith, c.next_line.ensures.shorter, c.loop-one.invariant.short);
}

pub returns-clause-lines : goal.returns-clause-lines
returns-clause-lines c =
    done c.args.profile c.loop-one.lines.items c.loop-one.rest.now c.loop-one.one-index c.args.found.now _ (omega (arith, c.loop-one-test.false))
    c.loop-one.invariant.exact
