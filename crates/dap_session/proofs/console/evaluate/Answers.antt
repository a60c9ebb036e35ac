use Rattle.std.proofs.Common.{◌&&◌, Bool, map, refl, subst, sym}
use Rattle.std.proofs.lemmas.Result.{IfErr-weaker, IfOk-weaker}
use Rattle.dap_messages.specs.Messages.{said_of}
use Rattle.dap_session.proofs.Stays.{refused_by_more}
use Rattle.dap_session.specs.Console.{Evaluates}
use Rattle.dap_session.specs.Refusals.{IfRefused, IsNoLook}
use Rattle.dap_session.proofs.console.evaluate.Goals as goal

pub returns-then-is_console : goal.returns-then-is_console
returns-then-is_console c =
    let old = c.args.client.now in
    let text = c.args.text.now in
    let line = c.evaluate_line.ensures in
    record {
      done = IfOk-weaker c.evaluate_line.result _ _
          (λ ms done. subst (λ (b : Bool). Evaluates b c.args.frame text old c.evaluate_line.new.client (map said_of ms.items))
          (sym c.if-is_console.true) done) line.done;
      refused = line.refused;
      why = IfErr-weaker c.evaluate_line.result _ _ (λ f why.
          subst (λ (b : Bool). IfRefused f (IsNoLook text b old.mon)) (sym c.if-is_console.true) why) line.why;
    }

pub returns-clause-done : goal.returns-clause-done
returns-clause-done c =
    let old = c.args.client.now in
    IfOk-weaker c.look_in.result _ _
    (λ ms looks. subst (λ (b : Bool). Evaluates b c.args.frame c.args.text.now old old (map said_of ms.items))
    (sym c.if-is_console.false) (refl, looks)) c.look_in.ensures.done

pub returns-clause-why : goal.returns-clause-why
returns-clause-why c =
    let old = c.args.client.now in
    IfErr-weaker c.look_in.result _ _
    (λ f why. refused_by_more f _ (IsNoLook c.args.text.now c.args.is_console old.mon)
    (λ none. subst (λ (b : Bool). IsNoLook c.args.text.now b old.mon) (sym c.if-is_console.false) (refl, none)) why)
    c.look_in.ensures.why
