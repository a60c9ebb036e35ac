use Rattle.std.proofs.Common.{◌∙◌, ◌-◌, ◌+◌, sym, arith}
use Rattle.mon_lines.proofs.TestSteps.{no_test_left, test_refused, tests_end, tests_more}
use Rattle.mon_lines.proofs.tests.tests_within.Goals as goal

pub returns-in-Err-clause-err : goal.returns-in-Err-clause-err
returns-in-Err-clause-err c = c.loop.invariant.read ∙ test_refused (5 - c.loop.counter) (5 - (c.loop.counter + 1)) _ _ _ _ _ (omega arith) c.in-Err.ensures.err

pub returns-then-not-is_word-clause-ok : goal.returns-then-not-is_word-clause-ok
returns-then-not-is_word-clause-ok c =
    c.loop.invariant.read
    ∙ tests_end (5 - c.loop.counter) (5 - (c.loop.counter + 1)) c.args.places.now c.args.pc c.loop.found.items c.loop.rest.now
    c.push_test.new.found.items c.in-Ok.behind.now (omega arith) c.in-Ok.ensures.ok (sym c.is_word.ensures ∙ c.if-not-is_word.true)

pub loop-preserved : goal.loop-preserved
loop-preserved c = record {
  read = rw c.after_word-rest.ensures (c.loop.invariant.read
      ∙ tests_more (5 - c.loop.counter) (5 - (c.loop.counter + 1)) c.args.places.now c.args.pc c.loop.found.items c.loop.rest.now
      c.push_test.new.found.items c.in-Ok.behind.now (omega arith) c.in-Ok.ensures.ok (sym c.is_word.ensures ∙ c.if-not-is_word.false));
}

pub returns-clause-ok : goal.returns-clause-ok
returns-clause-ok c = c.loop.invariant.read ∙ no_test_left (5 - c.loop.counter) _ _ _ _ (omega arith)
