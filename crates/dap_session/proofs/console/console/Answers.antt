use Rattle.std.proofs.Common.{[], refl, subst, sym}
use Rattle.std.proofs.lemmas.Result.{IfOk-weaker}
use Rattle.std.specs.Prelude.{string_bytes}
use Rattle.dap_messages.specs.SeenAnswers.{evaluated_body}
use Rattle.dap_session.specs.Console.{ServesRead}
use Rattle.mon_lines.specs.Lines.{line_view}
use Rattle.mon_session.specs.declared.mon_state.MonState.{MonState}
use Rattle.dap_session.proofs.console.console.Goals as goal

pub returns-clause-served : goal.returns-clause-served
returns-clause-served c =
    let over = c.in_ok-served.served.is_over in
    let said = string_bytes c.in_ok-served.served.said in
    let old = c.args.client.now.mon in
    IfOk-weaker c.with_over.result _ _
    (λ ms done. (
      over,
      said,
      subst (λ (d : MonState). ServesRead (line_view c.args.read.now) over old d said) (sym c.with_moved-told.ensures.kept.0) c.in_ok-served.ensures,
      done,
      refl,
    ))
    (c.with_over.ensures (evaluated_body said)
    (c.with_moved-told.ensures.answer (evaluated_body said) []
    (c.answered-answer.ensures (evaluated_body said) refl)))
