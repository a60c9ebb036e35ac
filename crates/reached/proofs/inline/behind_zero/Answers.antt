use Rattle.std.proofs.Common.{◌≡◌, ◌-◌, sym, ◌∙◌, arith}
use Rattle.reached.proofs.Behind.{gap, ends, goes_on, none}
use Rattle.reached.proofs.inline.behind_zero.Goals as goal

pub returns-in_default : goal.returns-in_default
returns-in_default c =
    sym (c.loop-left.invariant.found ∙ gap c.args.cells.now c.loop-left.left c.loop-left.at (sym c.cell_at.ensures.same ∙ c.in_default.is))

pub returns-then-is_end : goal.returns-then-is_end
returns-then-is_end c =
    sym (c.loop-left.invariant.found ∙ ends c.args.cells.now c.loop-left.left c.loop-left.at c.in-Some.byte c.loop-left-test.true
    (sym c.cell_at.ensures.same ∙ c.in-Some.is) (sym c.is_end.ensures ∙ c.if-is_end.true))

pub loop-left-preserved : goal.loop-left-preserved
loop-left-preserved c = record {
  found = c.loop-left.invariant.found ∙ goes_on c.args.cells.now c.loop-left.left c.loop-left.at c.in-Some.byte c.loop-left-test.true
      (sym c.cell_at.ensures.same ∙ c.in-Some.is) (sym c.is_end.ensures ∙ c.if-is_end.false);
  near = omega (arith, c.loop-left.invariant.near, c.loop-left-test.true);
  few = omega (arith, c.loop-left.invariant.few);
}

pub returns : goal.returns
returns c =
    let zero_left : c.loop-left.left ≡ 0 = omega (arith, c.loop-left-test.false) in
    sym (rw zero_left at c.loop-left.invariant.found ∙ none c.args.cells.now c.loop-left.at)
