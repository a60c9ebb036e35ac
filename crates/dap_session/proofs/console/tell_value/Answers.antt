use Rattle.std.proofs.Common.{[], ◌∷◌, ap}
use Rattle.dap_messages.specs.Messages.{done}
use Rattle.dap_messages.specs.SeenAnswers.{value_set_body}
use Rattle.dap_views.specs.Named.{value_shown}
use Rattle.dap_session.proofs.console.tell_value.Goals as goal

pub returns : goal.returns
returns c =
    let shown = value_shown c.args.mon.now.session.current c.args.variable in
    c.with_unmoved.ensures (done (value_set_body shown) ∷ []) (c.answered-answer.ensures (value_set_body shown) (ap value_set_body c.in_ok-value.ensures))
