use Rattle.std.proofs.Common.{◌∙◌, sym}
use Rattle.optable.proofs.Naming.{found_at, passed_at}
use Rattle.optable.proofs.names.look_up.Goals as goal

pub returns-then-eq : goal.returns-then-eq
returns-then-eq c = found_at c.args.letters c.args.names.now c.loop-name.name-index _ c.loop-name-test.true (sym c.eq.ensures ∙ c.if-eq.true)
    c.loop-name.invariant

pub loop-name-preserved : goal.loop-name-preserved
loop-name-preserved c = passed_at c.args.letters c.args.names.now c.loop-name.name-index _ c.loop-name-test.true (sym c.eq.ensures ∙ c.if-eq.false)
    c.loop-name.invariant
