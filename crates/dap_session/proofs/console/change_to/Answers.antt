use Rattle.std.proofs.Common.{◌≡◌, ◌∙◌, IfOk, List, None, Some, ap, subst, ℕ}
use Rattle.std.proofs.lemmas.Result.{IfErr-weaker}
use Rattle.dap_session.specs.Changes.{change_of}
use Rattle.dap_session.specs.Refusals.{IfRefused}
use Rattle.dap_views.specs.Named.{meant}
use Rattle.dap_session.proofs.console.change_to.Goals as goal

pub returns-clause-event : goal.returns-clause-event
returns-clause-event c =
    let mon = c.args.mon.now in
    let variable = c.args.variable in
    let text = c.in_ok-text.ensures ∙ ap (λ (t : List ℕ). meant mon.session.current variable t) c.as_bytes.ensures.value in
    subst (λ (t : List ℕ). IfOk c.change_of.result (λ event. change_of mon t variable ≡ Some event)) text c.change_of.ensures.event

pub returns-clause-why : goal.returns-clause-why
returns-clause-why c =
    let mon = c.args.mon.now in
    let variable = c.args.variable in
    let text = c.in_ok-text.ensures ∙ ap (λ (t : List ℕ). meant mon.session.current variable t) c.as_bytes.ensures.value in
    IfErr-weaker c.change_of.result _ _ (λ f why. subst (λ (t : List ℕ). IfRefused f (change_of mon t variable ≡ None)) text why) c.change_of.ensures.why
