use Rattle.std.proofs.Common.{◌≡◌, ◌∙◌, Bool, ap, false, map, refl, subst, sym, true}
use Rattle.std.proofs.lemmas.Result.{IfErr-weaker, IfOk-weaker}
use Rattle.std.specs.Prelude.{is_ok, Result}
use Rattle.dap_messages.specs.Messages.{said_of}
use Rattle.dap_session.proofs.Done.{kept}
use Rattle.dap_session.proofs.Stays.{refused_by_more}
use Rattle.dap_session.specs.Console.{EvaluatesAs, ServesRead, is_line}
use Rattle.dap_session.specs.Refusals.{IsNoLook}
use Rattle.dap_views.specs.Looks.{look_at}
use Rattle.model.specs.declared.registers.Regs.{Regs}
use Rattle.mon_dispatch.specs.Lines.{read_at}
use Rattle.mon_lines.specs.Lines.{SeenLine, asked_view, line_view, seen_line}
use Rattle.mon_lines.specs.declared.command.Command.{Command}
use Rattle.mon_lines.specs.declared.slip.Slip.{Slip}
use Rattle.dap_session.proofs.console.evaluate_line.Goals as goal

pub returns-in-Ok-clause-done : goal.returns-in-Ok-clause-done
returns-in-Ok-clause-done c =
    let old = c.args.client.now in
    let text = c.args.text.now in
    let read = c.new-read.ensures ∙ (λ i. seen_line old.mon.places ((ap (λ (r : Regs). r.pc) c.regs-pc.ensures) i) (c.as_bytes.ensures.value i)) in
    let line : is_line old.mon text ≡ true = sym (ap (λ (l : SeenLine). is_ok l.asked) read)
    ∙ ap (λ (a : Result Command Slip). is_ok (asked_view a)) c.in-Ok.is in
    IfOk-weaker c.or_memory.result _ _
    (λ ms done. subst (λ (b : Bool). EvaluatesAs b text old c.console.new.client (map said_of ms.items)) (sym line)
    (done.0, done.1, subst (λ (l : SeenLine). ServesRead l done.0 old.mon c.console.new.client.mon done.1) read done.2, done.3, done.4))
    (kept c.console.result c.or_memory.result _ c.or_memory.ensures.made c.console.ensures.served)

pub returns-in-Err-clause-done : goal.returns-in-Err-clause-done
returns-in-Err-clause-done c =
    let old = c.args.client.now in
    let text = c.args.text.now in
    let read = c.new-read.ensures ∙ (λ i. seen_line old.mon.places ((ap (λ (r : Regs). r.pc) c.regs-pc.ensures) i) (c.as_bytes.ensures.value i)) in
    let line : is_line old.mon text ≡ false = sym (ap (λ (l : SeenLine). is_ok l.asked) read)
    ∙ ap (λ (a : Result Command Slip). is_ok (asked_view a)) c.in-Err.is in
    IfOk-weaker c.look.result _ _
    (λ ms looks. subst (λ (b : Bool). EvaluatesAs b text old old (map said_of ms.items)) (sym line) (refl, looks)) c.look.ensures.done

pub returns-in-Err-clause-why : goal.returns-in-Err-clause-why
returns-in-Err-clause-why c =
    let old = c.args.client.now in
    let text = c.args.text.now in
    let read = c.new-read.ensures ∙ (λ i. seen_line old.mon.places ((ap (λ (r : Regs). r.pc) c.regs-pc.ensures) i) (c.as_bytes.ensures.value i)) in
    let line : is_line old.mon text ≡ false = sym (ap (λ (l : SeenLine). is_ok l.asked) read)
    ∙ ap (λ (a : Result Command Slip). is_ok (asked_view a)) c.in-Err.is in
    IfErr-weaker c.look.result _ _ (λ f why. refused_by_more f _ (IsNoLook text true old.mon) (λ none. (line, none)) why) c.look.ensures.why
