use Rattle.std.proofs.Common.{◌≡◌, ◌∙◌, ℕ, ◌∷◌, ◌++◌, [], IfOk, List, ap, append_assoc, map, subst}
use Rattle.dap_messages.specs.Messages.{Said, said_of}
use Rattle.dap_messages.specs.declared.halt.Halt.{Halt}
use Rattle.dap_session.specs.Told.{console_said, halt_shown, remark_said, stopped_said, told_of}
use Rattle.mon_session.specs.declared.mon_state.MonState.{MonState}
use Rattle.dap_session.proofs.telling.with_halt.Goals as goal

three : (m a b c : List Said) → ((m ++ a) ++ b) ++ c ≡ m ++ (a ++ b ++ c)
three m a b c = ap (λ (t : List Said). t ++ c) (append_assoc m a b) ∙ append_assoc m (a ++ b) c

-- what is told of a halt, behind other messages
told : (mon : MonState) (count : ℕ) (halt : Halt) (hits : List ℕ) (before : List Said) (text : List ℕ)
    → text ≡ halt_shown mon.places.names halt.words.now halt.fault
    → ((before ++ console_said count mon.session.current.bus.out) ++ remark_said halt.reason halt.words.now)
    ++ stopped_said halt.reason text hits ∷ [] ≡ before ++ told_of mon count halt hits
told mon count halt hits before text is =
    (λ i. ((before ++ console_said count mon.session.current.bus.out) ++ remark_said halt.reason halt.words.now)
    ++ stopped_said halt.reason (is i) hits ∷ [])
    ∙ three before _ _ _

pub returns-clause-messages : goal.returns-clause-messages
returns-clause-messages c = λ before is.
    subst (λ (ss : List Said). IfOk c.with_stop-all.result (λ ms. map said_of ms.items ≡ ss))
    (told c.args.mon.now c.args.told.now.count c.args.halt c.args.hits.items before c.as_str.result.now
    (c.as_str.ensures.value ∙ c.in_ok-words.ensures))
    (c.with_stop-all.ensures _ (c.with_console-console.ensures before is))
