use Rattle.std.proofs.Common.{◌∙◌, ap, subst, sym}
use Rattle.model.specs.Session.{Session}
use Rattle.t65_reader.specs.declared.row.Signal.TheVariants.{Irq, Nmi}
use Rattle.t65_runner.specs.Start.{IsSince}
use Rattle.t65_runner.proofs.Since.{arrived_irq, arrived_nmi, breaks_arrival, since_arrival}
use Rattle.t65_runner.proofs.requests.arrive.Goals as goal

pub returns-in-Irq-clause-since : goal.returns-in-Irq-clause-since
returns-in-Irq-clause-since c = λ s since.
    subst (IsSince s) (sym (arrived_irq c.args.session.now c.happen.new.session c.happen-in-Irq.new.session c.happen-in-Irq-2.new.session
    c.happen.ensures c.happen-in-Irq.ensures c.happen-in-Irq-2.ensures))
    (since_arrival s Irq c.args.session.now since)

pub returns-in-Irq-clause-stops : goal.returns-in-Irq-clause-stops
returns-in-Irq-clause-stops c =
    ap (λ (x : Session). x.breaks) (arrived_irq c.args.session.now c.happen.new.session c.happen-in-Irq.new.session c.happen-in-Irq-2.new.session
    c.happen.ensures c.happen-in-Irq.ensures c.happen-in-Irq-2.ensures)
    ∙ breaks_arrival Irq c.args.session.now

pub returns-in-Nmi-clause-since : goal.returns-in-Nmi-clause-since
returns-in-Nmi-clause-since c = λ s since.
    subst (IsSince s) (sym (arrived_nmi c.args.session.now c.happen-in-Nmi.new.session c.happen-in-Nmi-2.new.session c.happen-in-Nmi.ensures
    c.happen-in-Nmi-2.ensures))
    (since_arrival s Nmi c.args.session.now since)

pub returns-in-Nmi-clause-stops : goal.returns-in-Nmi-clause-stops
returns-in-Nmi-clause-stops c =
    ap (λ (x : Session). x.breaks) (arrived_nmi c.args.session.now c.happen-in-Nmi.new.session c.happen-in-Nmi-2.new.session c.happen-in-Nmi.ensures
    c.happen-in-Nmi-2.ensures)
    ∙ breaks_arrival Nmi c.args.session.now
