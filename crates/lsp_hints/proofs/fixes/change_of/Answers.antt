use Rattle.std.proofs.Common.{◌≡◌, ◌∙◌, IfOk, rules, string_bytes}
use Rattle.std.proofs.lemmas.Result.{IfOk-weaker}
use Rattle.std.specs.Str.Lossy.{utf8_lossy}
use Rattle.lsp_answers.specs.Texts.{text_view}
use Rattle.lsp_hints.specs.Fixes.{edit_of}
use Rattle.serde_json.specs.View.{view}
use Rattle.lsp_hints.proofs.fixes.change_of.Goals as goal

pub returns : goal.returns
returns c written called words title =
    let same : string_bytes c.in-Ok.written ≡ utf8_lossy written = c.in-Ok.ensures written words in
    let edit : IfOk c.edit.result (λ v. view v ≡ edit_of (text_view c.args.text.now) c.args.number c.args.place written) =
    IfOk-weaker c.edit.result _ _ (λ v is. is ∙ search (rules, same)) (c.edit.ensures _ c.range-range.ensures) in
    let edits = c.build-edits.ensures _ (c.with.ensures _ _ c.new.ensures edit) in
    c.build.ensures _ (c.text.ensures _ _ (c.word.ensures _ (c.member.ensures _ _ c.new-2.ensures (c.changes.ensures _ edits)))
    (c.text_of-title.ensures called title))
