use Rattle.std.proofs.Common.{◌≡◌, ◌-◌, sym, ◌∙◌, arith}
use Rattle.reached.proofs.Behind.{high_gap, high_ends, high_goes_on, high_none}
use Rattle.reached.proofs.inline.behind_high.Goals as goal

pub returns-in_default : goal.returns-in_default
returns-in_default c =
    sym (c.loop-left.invariant.found ∙ high_gap c.args.cells.now c.loop-left.left c.loop-left.at (sym c.cell_at.ensures.same ∙ c.in_default.is))

pub returns-then-has_high_bit : goal.returns-then-has_high_bit
returns-then-has_high_bit c =
    sym (c.loop-left.invariant.found ∙ high_ends c.args.cells.now c.loop-left.left c.loop-left.at c.in-Some.byte c.loop-left-test.true
    (sym c.cell_at.ensures.same ∙ c.in-Some.is) (sym c.has_high_bit.ensures ∙ c.if-has_high_bit.true))

pub loop-left-preserved : goal.loop-left-preserved
loop-left-preserved c = record {
  found = c.loop-left.invariant.found ∙ high_goes_on c.args.cells.now c.loop-left.left c.loop-left.at c.in-Some.byte c.loop-left-test.true
      (sym c.cell_at.ensures.same ∙ c.in-Some.is) (sym c.has_high_bit.ensures ∙ c.if-has_high_bit.false);
  near = omega (arith, c.loop-left.invariant.near, c.loop-left-test.true);
  few = omega (arith, c.loop-left.invariant.few);
}

pub returns : goal.returns
returns c =
    let zero_left : c.loop-left.left ≡ 0 = omega (arith, c.loop-left-test.false) in
    sym (rw zero_left at c.loop-left.invariant.found ∙ high_none c.args.cells.now c.loop-left.at)
