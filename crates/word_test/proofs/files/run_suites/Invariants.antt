use Rattle.std.proofs.Common.{map, take}
use Rattle.t65_suites.specs.Suites.{suite_view}
use Rattle.word_test.specs.Told.{AreRun}
use Rattle.word_test.proofs.files.run_suites.Given as goal

abbrev pub invariant-loop-index : goal.invariant-loop-index
invariant-loop-index g l = AreRun l.manner (map suite_view (take l.index l.suites)) (g.O.Write.contents l.fn.output) (g.O.Write.contents l.output)
    l.count l.all_pass
