use Rattle.t65_suites.specs.Suites.{suite_view}
use Rattle.word_test.proofs.Facts.{none_begun, tested_result, untested_result}
use Rattle.word_test.proofs.files.run_suite.Goals as goal

pub returns-in-Ok : goal.returns-in-Ok
returns-in-Ok g c = tested_result c.args.manner (suite_view c.args.suite) c.args.count _ _ c.in-Ok.prepared c.run_tested.result
    c.in-Ok.ensures.prepared c.run_tested.ensures.tally c.run_tested.ensures.written c.run_tested.ensures.begun

pub returns-then-is_memory : goal.returns-then-is_memory
returns-then-is_memory g c = none_begun c.args.manner (suite_view c.args.suite) c.args.count _

pub returns-else-is_memory : goal.returns-else-is_memory
returns-else-is_memory g c = untested_result g.O.Write.contents c.args.manner (suite_view c.args.suite) c.args.count _ _ c.in-Err.why.points
    c.in-Err.why.fault c.run_untested.result c.in-Err.ensures.refused c.run_untested.ensures.tally c.run_untested.ensures.written c.run_untested.ensures.begun
