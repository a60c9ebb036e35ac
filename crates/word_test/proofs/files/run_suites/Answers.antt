use Rattle.std.proofs.Common.{arith, refl}
use Rattle.word_test.proofs.Facts.{all_run, none_run, one_begun, one_run}
use Rattle.word_test.proofs.files.run_suites.Goals as goal

pub loop-index-init : goal.loop-index-init
loop-index-init g c = none_run c.args.manner _

pub loop-index-preserved : goal.loop-index-preserved
loop-index-preserved g c = one_run c.args.manner c.args.suites.now c.loop-index.index _ _ _ _ _ c.loop-index.count c.loop-index.all_pass
    c.both-all_pass.result c.in-Ok.tally
    c.loop-index-test.true refl c.both-all_pass.ensures c.loop-index.invariant c.in-Ok.ensures

pub returns-in-Err : goal.returns-in-Err
returns-in-Err g c = one_begun c.args.manner c.args.suites.now c.loop-index.index _ _ _ _ _ c.loop-index.count c.loop-index.all_pass
    c.loop-index-test.true refl c.loop-index.invariant c.in-Err.ensures

pub returns : goal.returns
returns g c = all_run c.args.manner c.args.suites.now c.loop-index.index _ _ c.loop-index.count c.loop-index.all_pass
    (omega (arith, c.loop-index-test.false)) c.loop-index.invariant
