use Rattle.std.proofs.Common.{◌+◌, ◌-◌, arith}
use Rattle.mon_runs.proofs.LookedRuns.{pushed-begin, pushed-ends, pushed-goes, pushed-over}
use Rattle.mon_runs.proofs.looked.pushed_at.Goals as goal

pub loop-depth-init : goal.loop-depth-init
loop-depth-init c = pushed-begin _ _ _

pub returns-then-has_access : goal.returns-then-has_access
returns-then-has_access c =
    pushed-ends _ _ c.loop-depth.depth _ (c.args.pushes - (c.loop-depth.depth + 1)) c.pushed_to-address.result _ _
    c.loop-depth.invariant (omega (arith, c.loop-depth-test.true)) c.pushed_to-address.ensures c.has_access.ensures c.if-has_access.true

pub returns : goal.returns
returns c = pushed-over _ _ c.loop-depth.depth _ _ c.loop-depth.invariant (omega (arith, c.loop-depth-test.false))

pub loop-depth-preserved : goal.loop-depth-preserved
loop-depth-preserved c =
    pushed-goes _ _ c.loop-depth.depth _ (c.args.pushes - (c.loop-depth.depth + 1)) c.pushed_to-address.result _ _
    c.loop-depth.invariant (omega (arith, c.loop-depth-test.true)) c.pushed_to-address.ensures c.has_access.ensures c.if-has_access.false
