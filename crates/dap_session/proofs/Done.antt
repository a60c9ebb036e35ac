-- What is said of a request that is done, with more behind it.
use Rattle.std.proofs.Common.{◌≡◌, ◌∙◌, IfOk, List, [], ◌∷◌, ◌++◌, ap, refl, subst}
use Rattle.std.proofs.lemmas.Result.{IfOk-weaker}
use Rattle.std.specs.Prelude.{Err, Ok, OnOk, Result}
use Rattle.dap_messages.specs.SeenAnswers.{SeenAnswer, answer_view, continued, nothing}
use Rattle.dap_messages.specs.declared.answer.Answer.{Answer}
use Rattle.dap_messages.specs.Messages.{Said, done}
use Rattle.dap_session.specs.Told.{IsDone}

pub done_more : (body : SeenAnswer) (before after more : List Said) → after ≡ before ++ more → IsDone body before → IsDone body after
done_more body before after more grown d = (d.0 ++ more, grown ∙ ap (λ (s : List Said). s ++ more) d.1)

-- whatever was said before
pub done_by : {V E : Type 0} (body : SeenAnswer) (m r : Result V E) (told : V → List Said) (more : List Said)
    → ((before : List Said) → IfOk m (λ ms. told ms ≡ before) → IfOk r (λ ms. told ms ≡ before ++ more))
    → IfOk m (λ ms. IsDone body (told ms)) → IfOk r (λ ms. IsDone body (told ms))
done_by body (Ok ms) r told more grown d = IfOk-weaker r _ _ (λ ns h. done_more body (told ms) (told ns) more h d) (grown (told ms) refl)
done_by body (Err e) r told more grown d =
    IfOk-weaker r _ _ (λ ns h. done_more body (done body ∷ []) (told ns) more h ([], refl)) (grown (done body ∷ []) tt)

-- messages that are handed on, and what holds of each result
pub kept : {V E F : Type 0} (m : Result V E) (r : Result V F) (P : V → Type 0) → IfOk r (λ v. m ≡ Ok v) → IfOk m P → IfOk r P
kept m r P was holds = IfOk-weaker r _ _ (λ v is. subst (λ o. IfOk o P) is holds) was

pub always : {V E : Type 0} (r : Result V E) (P : V → Type 0) → ((v : V) → P v) → IfOk r P
always (Ok v) P holds = holds v
always (Err e) P holds = tt

-- an answer with a value, and what holds of the value that was made for it
pub answered_with : {V E F : Type 0} (made : Result Answer E) (r : Result V F) (told : V → List Said) (P : SeenAnswer → Type 0)
    → IfOk made (λ v. P (answer_view v))
    → ((d : SeenAnswer) → IfOk made (λ v. answer_view v ≡ d) → IfOk r (λ ms. told ms ≡ done d ∷ []))
    → IfOk r (λ ms. (d : SeenAnswer) × P d × (told ms ≡ done d ∷ []))
answered_with (Ok v) r told P holds says = IfOk-weaker r _ _ (λ ms is. (answer_view v, holds, is)) (says (answer_view v) refl)
answered_with (Err e) (Ok ms) told P holds says =
    let one : told ms ≡ done nothing ∷ [] = says nothing tt in
    let other : told ms ≡ done continued ∷ [] = says continued tt in
    absurd (cc)
answered_with (Err e) (Err f) told P holds says = tt

-- what was told of a request that is listed again
set_where : {E : Type 0} (told : Result Answer E) (v : Answer) (P : SeenAnswer → Type 0) → told ≡ Ok v
    → IfOk told (λ w. P (answer_view w)) → (d : SeenAnswer) × P d
set_where told v P is sets = (answer_view v, subst (λ o. IfOk o (λ (w : Answer). P (answer_view w))) is sets)

pub set_so : {U E : Type 0} (r : Result U E) (told : Result Answer E) (P : SeenAnswer → Type 0) → IfOk told (λ v. P (answer_view v))
    → OnOk r ((v : Answer) × (told ≡ Ok v)) → OnOk r ((d : SeenAnswer) × P d)
set_so (Ok u) told P sets let_go = set_where told let_go.0 P let_go.1 sets
set_so (Err e) told P sets let_go = tt

-- what holds of what was made, and what holds if it was made
pub with_held : {V E H : Type 0} (r : Result V E) (P R : V → Type 0) → ((v : V) → P v → H → R v) → IfOk r P → OnOk r H → IfOk r R
with_held (Ok v) P R so p h = so v p h
with_held (Err e) P R so p h = tt

pub with_both : {V E G H : Type 0} (r : Result V E) (P R : V → Type 0) → ((v : V) → P v → G → H → R v) → IfOk r P → OnOk r G → OnOk r H → IfOk r R
with_both (Ok v) P R so p g h = so v p g h
with_both (Err e) P R so p g h = tt
