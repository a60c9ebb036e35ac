use Rattle.std.proofs.Common.{◌≡◌, ◌∙◌, ◌⊎◌, ◌∷◌, ◌++◌, ℕ, [], IfOk, List, append-nil, inl, inr, map, subst, sym}
use Rattle.std.proofs.lemmas.Result.{IfOk-weaker}
use Rattle.dap_messages.specs.Messages.{said_of}
use Rattle.dap_messages.specs.declared.halt.Reason.{Reason}
use Rattle.dap_session.specs.Told.{remark_said, stopped_said}
use Rattle.dap_session.proofs.telling.with_stop.Goals as goal
use Rattle.dap_session.proofs.telling.with_stop.Goals.{in-Entry, in-Step, in-FunctionBreakpoint, in-Goto}

-- a fact at each of three reasons
three : (P : Reason → Type 0) (reason a b d : Reason) → P a → P b → P d → (reason ≡ a) ⊎ ((reason ≡ b) ⊎ (reason ≡ d)) → P reason
three P reason a b d is_a is_b is_d (inl e) = subst P (sym e) is_a
three P reason a b d is_a is_b is_d (inr (inl e)) = subst P (sym e) is_b
three P reason a b d is_a is_b is_d (inr (inr e)) = subst P (sym e) is_d

pub returns : goal.returns
returns c = λ before is.
    let behind = before ++ remark_said c.args.halt.reason c.args.halt.words.now in
    let P : Reason → Type 0 = λ reason. IfOk c.args.messages (λ ms. map said_of ms.items ≡ before ++ remark_said reason c.args.halt.words.now) in
    let same = IfOk-weaker c.args.messages _ _ (λ ms h. h ∙ sym (append-nil before)) is in
    let remarked : IfOk c.match-halt.remarked (λ ms. map said_of ms.items ≡ behind) = elim c.match-halt.branch [
      | in-Entry w ↦ rw w.remarked-is (rw w.in-Entry.is (w.with_output-remarked.ensures before _ is w.format.ensures.ok))
      | in-Step w ↦ rw w.remarked-is (three P _ _ _ _ same same same w.in-Step.is)
      | in-FunctionBreakpoint w ↦ rw w.remarked-is (three P _ _ _ _ same same same w.in-FunctionBreakpoint.is)
      | in-Goto w ↦ rw w.remarked-is (three P _ _ _ _ same same same w.in-Goto.is)
    ] in
    subst (λ (w : List ℕ). IfOk c.with_event.result (λ ms. map said_of ms.items
    ≡ behind ++ stopped_said c.args.halt.reason w c.args.hits.items ∷ []))
    c.in_ok-words.ensures.ok (c.with_event.ensures behind remarked)
