use Rattle.std.proofs.Common.{◌∙◌, ap, subst, sym}
use Rattle.model.specs.Session.{Session}
use Rattle.t65_runner.specs.Start.{IsSince}
use Rattle.t65_runner.proofs.Since.{breaks_interrupted, since_interrupted}
use Rattle.t65_runner.proofs.interrupts.interrupt.Goals as goal

pub run_back-requires : goal.run_back-requires
run_back-requires c = record {
  stops = ap (λ (x : Session). x.breaks) c.enter.ensures ∙ (breaks_interrupted c.args.address c.args.session.now ∙ c.requires.stops);
}

pub returns-clause-since : goal.returns-clause-since
returns-clause-since c = λ s since. c.run_back.ensures.since s
    (subst (IsSince s) (sym c.enter.ensures) (since_interrupted s c.args.address c.args.session.now since))
