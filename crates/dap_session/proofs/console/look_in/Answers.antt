use Rattle.std.proofs.Common.{None, Option, Some, ap, option_map, refl, subst}
use Rattle.std.proofs.lemmas.Result.{IfOk-weaker}
use Rattle.dap_messages.specs.SeenAnswers.{answer_view}
use Rattle.dap_messages.specs.declared.answer.Answer.{Answer}
use Rattle.dap_session.proofs.Done.{kept}
use Rattle.dap_views.specs.Locals.{IsLocalLook, frame_number}
use Rattle.dap_session.proofs.console.look_in.Goals as goal

pub returns-in-Some-clause-done : goal.returns-in-Some-clause-done
returns-in-Some-clause-done c =
    let mon = c.args.client.now.mon in
    let found = subst (λ (o : Option Answer). IsLocalLook mon.session.current mon.places (frame_number c.args.frame) c.args.text.now (option_map answer_view o))
    c.in-Some.is c.in_ok-local.ensures in
    kept c.answered.result c.or_memory.result _ c.or_memory.ensures.made
    (IfOk-weaker c.answered.result _ _ (λ ms said. (Some (answer_view c.in-Some.body), found, said)) (c.answered.ensures _ refl))

pub returns-in-None-clause-done : goal.returns-in-None-clause-done
returns-in-None-clause-done c =
    let mon = c.args.client.now.mon in
    let found = subst (λ (o : Option Answer). IsLocalLook mon.session.current mon.places (frame_number c.args.frame) c.args.text.now (option_map answer_view o))
    c.in-None.is c.in_ok-local.ensures in
    IfOk-weaker c.look.result _ _ (λ ms looks. (None, found, looks)) c.look.ensures.done
