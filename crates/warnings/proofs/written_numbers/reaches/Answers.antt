use Rattle.std.proofs.Common.{ap, arith, ◌++◌, ◌∙◌, []}
use Rattle.model.specs.Names.{number_in}
use Rattle.warnings.specs.Reaches.{with_reach}
use Rattle.warnings.proofs.Reaching.{done, goes_on}
use Rattle.warnings.proofs.written_numbers.reaches.Goals as goal

pub loop-one-preserved : goal.loop-one-preserved
loop-one-preserved c =
    goes_on (number_in c.args.names.now) c.loop-one.found.items c.push_reach.new.reaches.items c.push_reach-in-loop-one.new.reaches.items
    c.loop-one.one-index c.args.lines.now c.one-item.result _ c.loop-one-test.true
    c.one-item.is (c.in_ok-push_reach.ensures ∙ ap (λ r. c.loop-one.found.items ++ with_reach r []) c.reach_of_bytes.ensures)
    (c.in_ok-push_reach-2.ensures ∙ ap (λ r. c.push_reach.new.reaches.items ++ with_reach r []) c.reach_of_line.ensures) c.loop-one.invariant

pub returns : goal.returns
returns c = done (number_in c.args.names.now) c.loop-one.found.items c.loop-one.one-index c.args.lines.now _ (omega (arith, c.loop-one-test.false))
    c.loop-one.invariant
