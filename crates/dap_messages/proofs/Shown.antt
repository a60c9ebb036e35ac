-- A result of which another fact says what it is.
use Rattle.std.proofs.Common.{◌≡◌, IfOk, subst}
use Rattle.std.specs.Prelude.{Result}
use Rattle.std.specs.declared.alloc.AllocError.{AllocError}
use Rattle.dap_messages.specs.SeenAnswers.{SeenAnswer, SeenItem, answer_view, item_view}
use Rattle.dap_messages.specs.declared.answer.Answer.{Answer}
use Rattle.dap_messages.specs.declared.item.Item.{Item}
use Rattle.serde_json.specs.Data.{Data}
use Rattle.serde_json.specs.View.{view}
use Rattle.serde_json.specs.declared.value.Value.{Value}

pub value_as : (r : Result Value AllocError) (d e : Data) → d ≡ e → IfOk r (λ v. view v ≡ d) → IfOk r (λ v. view v ≡ e)
value_as r d e same is = subst (λ (x : Data). IfOk r (λ v. view v ≡ x)) same is

pub item_as : (r : Result Item AllocError) (d e : SeenItem) → d ≡ e → IfOk r (λ v. item_view v ≡ d) → IfOk r (λ v. item_view v ≡ e)
item_as r d e same is = subst (λ (x : SeenItem). IfOk r (λ v. item_view v ≡ x)) same is

pub answer_as : (r : Result Answer AllocError) (d e : SeenAnswer) → d ≡ e → IfOk r (λ v. answer_view v ≡ d) → IfOk r (λ v. answer_view v ≡ e)
answer_as r d e same is = subst (λ (x : SeenAnswer). IfOk r (λ v. answer_view v ≡ x)) same is
