use Rattle.std.proofs.Common.{ℕ, ℤ, ◌+◌, ◌-◌, ◌∙◌, ap, IfOk, List, refl, subst, w64}
use Rattle.std.proofs.lemmas.Int.{to_z-of_z}
use Rattle.dap_messages.specs.SeenAnswers.{SeenItem}
use Rattle.dap_views.proofs.Following.{around}
use Rattle.dap_views.specs.Rows.{ahead, behind, lacking_rows, rows_around, rows_on, rows_to}
use Rattle.dap_messages.specs.ItemLists.{HasItems}
use Rattle.dap_views.proofs.rows.rows_around.Goals as goal

pub returns : goal.returns
returns c =
    let mon = c.args.mon.now in
    let files = c.args.source.now.files.now in
    let counting = c.args.source.now.counting in
    let end = c.from-until.result in
    let same_offset = to_z-of_z w64 c.args.offset c.ranges.offset in
    let begun = c.saturating_sub-begin.ensures in
    let found = c.in_ok-found.ensures.value ∙ ap (λ b. rows_to mon end (end - b) b) begun in
    let back = c.moved-back.ensures.behind ∙ ap (λ (z : ℤ). behind z) same_offset in
    let on = c.moved-back.ensures.ahead ∙ ap (λ (z : ℤ). ahead z) same_offset in
    let lacking = c.saturating_sub-lacking.ensures ∙ ap (λ n. c.moved-back.result.0 - n) found in
    let first = c.in_ok-first.ensures ∙ (λ i. rows_on mon end
    ((c.saturating_sub.ensures ∙ ap (λ n. n - c.moved-back.result.0) found) i + c.moved-back.result.1) (begun i)) in
    let front = subst (λ n. HasItems (lacking_rows n c.saturating_sub-lacking.result) c.lacking_rows-front.result) c.min.ensures
    c.lacking_rows-front.ensures in
    let same = around mon files counting end (behind c.args.offset) (ahead c.args.offset) c.args.count _ _ _ _ _ _ back on lacking first refl
    c.saturating_sub-left.ensures in
    let until = ap (λ (end : ℕ). rows_around mon files counting end (behind c.args.offset) (ahead c.args.offset) c.args.count) c.from-until.ensures in
    subst (λ (ds : List SeenItem). IfOk c.with_rows.result (HasItems ds)) (same ∙ until) (c.with_rows.ensures _ front)
