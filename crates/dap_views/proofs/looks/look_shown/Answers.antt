use Rattle.std.proofs.Common.{◌≡◌, ℕ, IfOk, Option, subst}
use Rattle.dap_messages.specs.SeenAnswers.{answer_view, look_body}
use Rattle.dap_views.specs.Looks.{look_words}
use Rattle.dap_views.proofs.looks.look_shown.Goals as goal

pub returns : goal.returns
returns c =
    let words = look_words c.args.mon.now.session.current c.args.look in
    subst (λ (place : Option ℕ). IfOk c.look_body.result (λ v. answer_view v ≡ look_body place words)) c.look_address.ensures
    (c.look_body.ensures words c.look_words.ensures)
