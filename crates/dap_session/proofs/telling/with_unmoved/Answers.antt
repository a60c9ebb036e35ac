use Rattle.std.proofs.Common.{◌≡◌, ◌∙◌, ◌∷◌, ◌++◌, [], Bool, IfOk, append-nil, false, if◌then◌else◌, map, not, refl, subst, sym, true}
use Rattle.std.proofs.lemmas.Result.{IfOk-weaker}
use Rattle.dap_messages.specs.Messages.{event, said_of}
use Rattle.dap_messages.specs.Events.{invalidated}
use Rattle.dap_session.proofs.telling.with_unmoved.Goals as goal

is_off : (b : Bool) → not b ≡ true → b ≡ false
is_off false e = refl
is_off true e = absurd cc

is_on : (b : Bool) → not b ≡ false → b ≡ true
is_on true e = refl
is_on false e = absurd cc

pub returns-then-not-counting : goal.returns-then-not-counting
returns-then-not-counting c = λ before is.
    subst (λ (b : Bool). IfOk c.args.messages (λ ms. map said_of ms.items ≡ before
    ++ (if b then event invalidated ∷ [] else []))) (sym (is_off _ c.if-not-counting.true))
    (IfOk-weaker c.args.messages _ _ (λ ms h. h ∙ sym (append-nil before)) is)

pub returns : goal.returns
returns c = λ before is.
    subst (λ (b : Bool). IfOk c.with_event.result (λ ms. map said_of ms.items ≡ before
    ++ (if b then event invalidated ∷ [] else []))) (sym (is_on _ c.if-not-counting.false))
    (c.with_event.ensures before is)
