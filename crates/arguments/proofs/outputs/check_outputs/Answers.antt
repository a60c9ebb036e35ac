use Rattle.std.proofs.Common.{◌∙◌, map}
use Rattle.arguments.specs.Outputs.{named}
use Rattle.arguments.proofs.Apart.{clash_ended, clash_stepped}
use Rattle.arguments.proofs.outputs.check_outputs.Goals as goal

pub loop-at-preserved : goal.loop-at-preserved
loop-at-preserved g c = c.loop-at.invariant ∙ clash_stepped (map named c.args.read.now) c.args.written.now c.loop-at.at c.loop-at-test.true
    c.in_ok-check_behind.ensures.apart.0 c.in_ok-check_behind.ensures.apart.1

pub returns-clause-apart : goal.returns-clause-apart
returns-clause-apart g c = c.loop-at.invariant ∙ clash_ended named (map named c.args.read.now) c.args.written.now c.loop-at.at c.loop-at-test.false
