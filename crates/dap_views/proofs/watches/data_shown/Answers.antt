use Rattle.std.proofs.Common.{◌∙◌, IfOk, ℕ, Option, subst, sym}
use Rattle.dap_messages.specs.SeenAnswers.{answer_view}
use Rattle.dap_views.specs.Locals.{IsDataBy}
use Rattle.dap_views.proofs.watches.data_shown.Goals as goal

pub returns-in-Some : goal.returns-in-Some
returns-in-Some c = subst (λ (frame : Option ℕ). IfOk c.local_data.result
    (λ v. IsDataBy frame c.args.mon.now c.args.scope c.args.name.now c.args.count c.args.is_address (answer_view v)))
    (sym c.in-Some.is ∙ c.local_frame.ensures) c.local_data.ensures

pub returns-in-None : goal.returns-in-None
returns-in-None c = subst (λ (frame : Option ℕ). IfOk c.place_data.result
    (λ v. IsDataBy frame c.args.mon.now c.args.scope c.args.name.now c.args.count c.args.is_address (answer_view v)))
    (sym c.in-None.is ∙ c.local_frame.ensures) c.place_data.ensures
