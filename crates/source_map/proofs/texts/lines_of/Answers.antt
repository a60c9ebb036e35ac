use Rattle.std.proofs.Common.{true-eqb}
use Rattle.source_map.proofs.Steps.{line_taken, no_line_left}
use Rattle.source_map.proofs.texts.lines_of.Goals as goal

pub loop-rest-preserved : goal.loop-rest-preserved
loop-rest-preserved c = line_taken _ _ _ _ _ _ c.in_ok-push_text.ensures c.next_line.ensures.cut c.loop-rest.invariant

pub returns : goal.returns
returns c = no_line_left _ _ _ (true-eqb _ 0 c.loop-rest-test.ensures) c.loop-rest.invariant
