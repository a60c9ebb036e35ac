use Rattle.std.proofs.Common.{◌∙◌, sym}
use Rattle.t65_runner.specs.Parts.{lines_seen}
use Rattle.t65_runner.proofs.Parts.{no_test_left, test_left_out, test_pushed}
use Rattle.t65_runner.proofs.around.tests_of.Goals as goal

pub loop-line-preserved-then-not-is_test : goal.loop-line-preserved-then-not-is_test
loop-line-preserved-then-not-is_test c =
    test_left_out c.args.lines.now c.loop-line.line-index c.line-item.result (lines_seen c.loop-line.found.items) _ c.loop-line-test.true
    c.line-item.is (sym c.is_test.ensures ∙ c.if-not-is_test.true) c.loop-line.invariant

pub loop-line-preserved : goal.loop-line-preserved
loop-line-preserved c =
    test_pushed c.args.lines.now c.loop-line.line-index _ c.loop-line.found.items c.push.new.self.items _ c.loop-line-test.true c.line-item.is
    (sym c.is_test.ensures ∙ c.if-not-is_test.false) c.in_ok-push.ensures.items c.loop-line.invariant

pub returns : goal.returns
returns c = no_test_left c.args.lines.now c.loop-line.line-index (lines_seen c.loop-line.found.items) _ c.loop-line-test.false c.loop-line.invariant
