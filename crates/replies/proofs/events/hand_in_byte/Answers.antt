use Rattle.std.proofs.Common.{◌∙◌, ap, sym, Ok}
use Rattle.replies.proofs.Inputs.{accepts, handed, after_one}
use Rattle.replies.proofs.events.hand_in_byte.Goals as goal

pub returns-clause-accepted : goal.returns-clause-accepted
returns-clause-accepted c =
    let now = handed c.args.session.now _ c.args.byte c.event.result c.requires c.event.ensures.ok c.event.ensures.err in
    accepts c.args.session.now.current c.args.byte c.requires ∙ sym (ap (λ s. Ok s.current) now)

pub returns-clause-after : goal.returns-clause-after
returns-clause-after c =
    handed c.args.session.now _ c.args.byte c.event.result c.requires c.event.ensures.ok c.event.ensures.err
    ∙ sym (after_one c.args.session.now c.args.byte c.requires)

pub returns-clause-given : goal.returns-clause-given
returns-clause-given c = ap (λ s. s.current.bus.given) (handed c.args.session.now _ c.args.byte c.event.result c.requires c.event.ensures.ok
    c.event.ensures.err)
