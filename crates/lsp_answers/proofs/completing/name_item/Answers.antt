use Rattle.std.proofs.Common.{◌≡◌, ℕ, ℤ, IfOk, Option, subst}
use Rattle.lsp_answers.specs.Completion.{value_words}
use Rattle.lsp_answers.specs.Items.{item_of}
use Rattle.lsp_answers.specs.Named.{item_kind}
use Rattle.lsp_answers.specs.Texts.{text_view}
use Rattle.name_uses.specs.Views.{use_view}
use Rattle.serde_json.specs.View.{view}
use Rattle.lsp_answers.proofs.completing.name_item.Goals as goal

pub returns : goal.returns
returns c =
    let u = use_view c.args.one.now in
    let group = c.args.group.now in
    let raw = c.item_of.ensures _ c.value_words-detail.ensures in
    let kinded = subst (λ (kind : ℕ). IfOk c.item_of.result (λ v. view v ≡ item_of u.text kind (value_words c.value_of.result) group))
    c.item_kind.ensures raw in
    subst (λ (number : Option ℤ). IfOk c.item_of.result (λ v. view v
    ≡ item_of u.text (item_kind (text_view c.args.text.now) u) (value_words number) group)) c.value_of.ensures kinded
