use Rattle.std.proofs.Common.{arith, true-eqb}
use Rattle.lsp_messages.proofs.TextSteps.{line_more, no_text, none_left}
use Rattle.lsp_messages.proofs.text_places.from_line.Goals as goal

pub returns-then-is_empty-clause-from : goal.returns-then-is_empty-clause-from
returns-then-is_empty-clause-from c = no_text c.loop-left.left c.loop-left.rest.now _ (true-eqb _ 0 c.if-is_empty.ensures) c.loop-left.invariant.from

pub loop-left-preserved : goal.loop-left-preserved
loop-left-preserved c = record {
  from = line_more c.loop-left.left c.loop-left.rest.now c.behind_line-rest.result.now _ (omega (arith, c.loop-left-test.true))
      c.behind_line-rest.ensures.behind c.loop-left.invariant.from;
  within = omega (arith, c.behind_line-rest.ensures.within, c.loop-left.invariant.within);
}

pub returns-clause-from : goal.returns-clause-from
returns-clause-from c = none_left c.loop-left.left c.loop-left.rest.now _ (omega (arith, c.loop-left-test.false)) c.loop-left.invariant.from
