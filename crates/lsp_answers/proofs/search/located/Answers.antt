use Rattle.std.proofs.Common.{◌≡◌, ℕ, IfOk, subst}
use Rattle.std.specs.Str.Lossy.{utf8_lossy}
use Rattle.lsp_answers.specs.Texts.{text_view, use_range}
use Rattle.lsp_messages.specs.Values.{found_symbol_data, location_data}
use Rattle.name_uses.specs.Views.{use_view}
use Rattle.serde_json.specs.View.{view}
use Rattle.lsp_answers.proofs.search.located.Goals as goal

pub returns : goal.returns
returns c =
    let t = text_view c.args.text.now in
    let u = use_view c.args.one.now in
    subst (λ (kind : ℕ). IfOk c.found_symbol.result (λ v. view v
    ≡ found_symbol_data kind (utf8_lossy u.text) (location_data c.args.uri.now (use_range t u)))) c.symbol_kind.ensures
    (c.found_symbol.ensures _ _ c.from_utf8_lossy-name.ensures.lossy (c.location-place.ensures _ c.range_of.ensures))
