use Rattle.std.proofs.Common.{◌≡◌, ◌∙◌, sym, arith, rules}
use Rattle.std.proofs.lemmas.List.{length-set}
use Rattle.reached.proofs.LettersFound.{run_done, run_more}
use Rattle.reached.proofs.letters.flag_run.Goals as goal

pub loop-left-preserved : goal.loop-left-preserved
loop-left-preserved c = record {
  set = sym (run_more c.loop-left.letters.items c.loop-left.left c.loop-left.at c.loop-left-test.true) ∙ c.loop-left.invariant.set;
  size = search rules;
  near = omega (arith, c.loop-left.invariant.near, c.loop-left-test.true);
}

pub returns-clause-set : goal.returns-clause-set
returns-clause-set c = run_done c.loop-left.letters.items _ c.loop-left.left c.loop-left.at c.loop-left-test.false c.loop-left.invariant.set
