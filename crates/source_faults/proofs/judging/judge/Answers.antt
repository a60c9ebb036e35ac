use Rattle.model.specs.Names.{number_in}
use Rattle.source_faults.specs.Views.{made_view}
use Rattle.source_faults.proofs.ValuesOfLines.{counted, goes_on}
use Rattle.source_faults.proofs.judging.judge.Goals as goal

pub loop-line-preserved : goal.loop-line-preserved
loop-line-preserved c = record {
  exact = rw c.in_ok-push.ensures.items
      (goes_on c.args.map.now (number_in c.args.names.now) (made_view c.loop-line.made) (made_view c.judge_found.new.made) c.loop-line.judged.items
      c.in_ok-one.one c.args.found.now
      c.loop-line.line-index c.line-item.result _ c.loop-line-test.true c.line-item.is c.in_ok-one.ensures.judged c.in_ok-one.ensures.made
      c.loop-line.invariant.exact);
  few = counted c.loop-line.judged.items c.push.new.self.items c.in_ok-one.one c.loop-line.line-index c.in_ok-push.ensures.items c.loop-line.invariant.few;
}
