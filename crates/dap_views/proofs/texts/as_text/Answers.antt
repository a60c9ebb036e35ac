use Rattle.std.proofs.Common.{◌≡◌, ◌∙◌, IfOk, List, subst, ℕ}
use Rattle.std.specs.Prelude.{OnOk, string_bytes}
use Rattle.std.specs.Str.Lossy.{utf8_lossy}
use Rattle.dap_views.proofs.texts.as_text.Goals as goal

pub returns : goal.returns
returns c = λ shown is.
    let now : c.args.bytes.items ≡ shown = subst (λ r. OnOk r (c.args.bytes.items ≡ shown)) c.in_ok-grown.was is in
    subst (λ (bs : List ℕ). IfOk c.from_utf8_lossy.result (λ text. string_bytes text ≡ utf8_lossy bs)) (c.as_slice.ensures.value ∙ now)
    c.from_utf8_lossy.ensures.lossy
