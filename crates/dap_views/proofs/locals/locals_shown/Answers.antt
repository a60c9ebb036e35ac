use Rattle.std.proofs.Common.{◌∙◌, List, ap, map}
use Rattle.std.proofs.lemmas.Result.{IfOk-weaker}
use Rattle.dap_messages.specs.SeenAnswers.{variables_body}
use Rattle.dap_views.specs.Locals.{local_item, seen_local}
use Rattle.dap_views.specs.Pages.{page_of}
use Rattle.dap_views.specs.declared.locals.FrameLocal.{FrameLocal}
use Rattle.dap_views.proofs.locals.locals_shown.Goals as goal

pub returns : goal.returns
returns c =
    let memory = c.args.mon.now.session.current.bus.memory in
    let locals = map seen_local c.in_ok-locals.locals.items in
    let told = λ (all : List FrameLocal). variables_body (page_of c.args.asked (map (local_item memory) (map seen_local all))) in
    IfOk-weaker c.variables_body.result _ _ (λ v is. (locals, c.in_ok-locals.ensures, is ∙ ap told c.as_slice.ensures.value))
    (c.variables_body.ensures _ c.locals_listed.ensures)
