use Rattle.std.proofs.Common.{IfOk, ℕ, option_map, subst}
use Rattle.dap_messages.specs.SeenAnswers.{answer_view}
use Rattle.dap_views.specs.Locals.{IsLocalLook}
use Rattle.dap_views.proofs.locals.look_in_frame.Goals as goal

pub returns : goal.returns
returns c = subst (λ (n : ℕ). IfOk c.look_numbered.result
    (λ found. IsLocalLook c.args.mon.now.session.current c.args.mon.now.places n c.args.name.now (option_map answer_view found)))
    c.frame_number.ensures c.look_numbered.ensures
