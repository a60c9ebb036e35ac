use Rattle.std.proofs.Common.{◌≡◌, ℕ, IfOk, subst}
use Rattle.std.specs.Str.Lossy.{utf8_lossy}
use Rattle.lsp_answers.specs.Texts.{text_view, use_range}
use Rattle.lsp_messages.specs.Values.{symbol_data}
use Rattle.name_uses.specs.Views.{use_view}
use Rattle.serde_json.specs.View.{view}
use Rattle.lsp_answers.proofs.lists.symbol_of.Goals as goal

pub returns : goal.returns
returns c =
    let t = text_view c.args.text.now in
    let u = use_view c.args.one.now in
    subst (λ (kind : ℕ). IfOk c.symbol.result (λ v. view v ≡ symbol_data kind (utf8_lossy u.text) (use_range t u) (use_range t u))) c.symbol_kind.ensures
    (c.symbol.ensures _ _ _ c.from_utf8_lossy-name.ensures.lossy c.range_of-range.ensures c.range_of-selected.ensures)
