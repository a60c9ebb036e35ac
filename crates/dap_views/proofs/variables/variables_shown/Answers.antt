use Rattle.std.proofs.Common.{◌∙◌, IfOk, ℕ, Option, subst, sym}
use Rattle.dap_messages.specs.SeenAnswers.{answer_view}
use Rattle.dap_views.specs.Locals.{ShowsBy}
use Rattle.dap_views.proofs.variables.variables_shown.Goals as goal

pub returns-in-Some : goal.returns-in-Some
returns-in-Some c = subst (λ (frame : Option ℕ). IfOk c.locals_shown.result
    (λ v. ShowsBy frame c.args.mon.now.session c.args.mon.now.places c.args.scope c.args.asked (answer_view v)))
    (sym c.in-Some.is ∙ c.frame_of.ensures) c.locals_shown.ensures

pub returns-in-None : goal.returns-in-None
returns-in-None c = subst (λ (frame : Option ℕ). IfOk c.others_shown.result
    (λ v. ShowsBy frame c.args.mon.now.session c.args.mon.now.places c.args.scope c.args.asked (answer_view v)))
    (sym c.in-None.is ∙ c.frame_of.ensures) c.others_shown.ensures
