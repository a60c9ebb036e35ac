use Rattle.std.proofs.Common.{arith, max, refl, rules, ◌≡◌, ◌∙◌}
use Rattle.word_check.specs.CommandLine.{check_view}
use Rattle.word_check.proofs.OneMore.{begun_at, higher_kept, lower_than, tried_more}
use Rattle.word_check.proofs.running.check_files.Goals as goal

pub returns-in-Err-clause-begun : goal.returns-in-Err-clause-begun
returns-in-Err-clause-begun g c =
    begun_at (check_view c.args.words.now) c.args.files.now c.loop-index.index _ _ (g.O.Write.contents c.args.output.now)
    (g.O.Write.contents c.loop-index.output) (g.O.Write.contents c.check_file.new.output)
    (c.loop-index.output ≡ c.args.output.now) c.loop-index.worst c.loop-index-test.true refl c.loop-index.invariant.tried c.in-Err.ensures.begun

pub loop-index-preserved : goal.loop-index-preserved
loop-index-preserved g c =
    let higher : c.max-worst.result ≡ max c.loop-index.worst c.in-Ok.status = search rules in
    record {
      tried = tried_more (check_view c.args.words.now) c.args.files.now c.loop-index.index _ _ (g.O.Write.contents c.args.output.now)
          (g.O.Write.contents c.loop-index.output) (g.O.Write.contents c.check_file.new.output)
          (c.loop-index.output ≡ c.args.output.now) (c.check_file.new.output ≡ c.loop-index.output) (c.check_file.new.output ≡ c.args.output.now)
          c.loop-index.worst c.in-Ok.status c.max-worst.result c.loop-index-test.true refl higher (λ u v. v ∙ u) c.loop-index.invariant.tried
          c.in-Ok.ensures.tried;
      within = higher_kept c.loop-index.worst c.in-Ok.status c.max-worst.result 4 higher c.loop-index.invariant.within c.in-Ok.ensures.within;
      quiet = λ least.
          let both = lower_than c.loop-index.worst c.in-Ok.status c.max-worst.result 1 higher least in
          c.in-Ok.ensures.quiet both.1 ∙ c.loop-index.invariant.quiet both.0;
    }
