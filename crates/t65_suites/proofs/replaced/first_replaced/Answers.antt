use Rattle.t65_suites.proofs.Spared.{read_here}
use Rattle.t65_suites.proofs.replaced.first_replaced.Goals as goal

pub returns-in-Some-clause-found : goal.returns-in-Some-clause-found
returns-in-Some-clause-found g c =
    read_here c.args.report.now c.args.suites.now c.loop-index.index _ _ c.loop-index-test.true (rw c.in-Some.is at c.in_ok-path.ensures.found)
