use Rattle.std.proofs.Common.{◌≡◌, IfOk, List, subst}
use Rattle.lsp_answers.specs.Meanings.{said}
use Rattle.lsp_answers.specs.Said.{name_words}
use Rattle.lsp_answers.specs.Texts.{text_view, use_range}
use Rattle.name_uses.specs.Views.{use_view, use_views}
use Rattle.name_uses.specs.declared.name_use.NameUse.{NameUse}
use Rattle.serde_json.specs.View.{view}
use Rattle.lsp_answers.proofs.meanings.name_said.Goals as goal

pub returns : goal.returns
returns c =
    let t = text_view c.args.text.now in
    let u = use_view c.args.one.now in
    let words = λ (us : List NameUse). name_words c.args.symbols.now (use_views us) u.text in
    let raw : IfOk c.said.result (λ v. view v ≡ said c.args.markdown c.name_lines.result.now (words c.deref.result.now) (use_range t u)) =
    c.said.ensures _ _ c.name_words-words.ensures c.range_of-range.ensures in
    let by_uses : IfOk c.said.result (λ v. view v ≡ said c.args.markdown c.name_lines.result.now (name_words c.args.symbols.now t.uses u.text)
    (use_range t u)) =
    subst (λ (us : List NameUse). IfOk c.said.result (λ v. view v ≡ said c.args.markdown c.name_lines.result.now (words us) (use_range t u)))
    c.deref.ensures.value raw in
    rw (← c.name_lines.ensures) by_uses
