use Rattle.std.proofs.Common.{arith}
use Rattle.warnings.proofs.Bracketing.{closes, few_more, goes_on, never_closed, some_left}
use Rattle.warnings.proofs.brackets.behind_bracket.Goals as goal

pub returns-then-depth-eq0 : goal.returns-then-depth-eq0
returns-then-depth-eq0 c =
    closes c.args.tokens.now c.loop-at.at c.loop-at.depth c.depth_behind-depth.result _ _ c.loop-at-test.true c.depth_behind-depth.ensures
    c.if-depth-eq0.true c.loop-at.invariant.exact

pub loop-at-preserved : goal.loop-at-preserved
loop-at-preserved c = record {
  exact = goes_on c.args.tokens.now c.loop-at.at c.loop-at.depth c.depth_behind-depth.result _ _ c.loop-at-test.true c.depth_behind-depth.ensures
      c.if-depth-eq0.false c.loop-at.invariant.exact;
  some = some_left c.depth_behind-depth.result c.if-depth-eq0.false;
  few = few_more c.args.tokens.now c.loop-at.at c.loop-at.depth c.depth_behind-depth.result _ c.depth_behind-depth.ensures c.loop-at.invariant.few;
  inside = omega (arith, c.loop-at-test.true);
}

pub returns : goal.returns
returns c = never_closed c.args.tokens.now c.loop-at.at c.loop-at.depth _ (omega (arith, c.loop-at-test.false)) c.loop-at.invariant.exact
