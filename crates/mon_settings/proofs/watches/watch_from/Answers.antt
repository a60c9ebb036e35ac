use Rattle.std.proofs.Common.{sym, ◌∙◌, arith}
use Rattle.mon_settings.proofs.Stopped.{stopped}
use Rattle.mon_settings.proofs.watches.watch_from.Goals as goal

pub returns-in-Some-clause-watched : goal.returns-in-Some-clause-watched
returns-in-Some-clause-watched c =
    stopped c.args.first c.loop-offset.offset c.args.count c.args.mon.now.session
    c.loop-offset.mon.session c.watch_change.new.mon.session c.in-Some.why
    (omega (arith, c.loop-offset-test.true))
    c.loop-offset.invariant.watched c.in_ok-why.ensures.session
    (sym c.in-Some.is ∙ c.in_ok-why.ensures.why)
