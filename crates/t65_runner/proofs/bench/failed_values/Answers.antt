use Rattle.std.proofs.Common.{sym, subst}
use Rattle.model.specs.Event.{start}
use Rattle.t65_runner.specs.Start.{IsSince}
use Rattle.t65_runner.proofs.Since.{since_fresh}
use Rattle.t65_runner.proofs.bench.failed_values.Goals as goal

pub restore-requires-clause-since : goal.restore-requires-clause-since
restore-requires-clause-since c = c.run_calls.ensures.since (start c.args.map c.args.image.now)
    (subst (IsSince (start c.args.map c.args.image.now)) (sym c.requires) (since_fresh c.args.map c.args.image.now))
