use Rattle.std.proofs.Common.{◌≡◌, ◌∙◌, ◌∷◌, ◌++◌, ℕ, [], IfOk, List, ap, arith, rules, subst}
use Rattle.std.specs.Prelude.{string_bytes}
use Rattle.base64.specs.Engines.{standard}
use Rattle.base64.specs.GeneralPurpose.{encode_of}
use Rattle.dap_views.proofs.Cells.{bytes_begin, bytes_done, bytes_more}
use Rattle.dap_views.proofs.memory.bytes_text.Goals as goal

pub loop-offset-init : goal.loop-offset-init
loop-offset-init c = bytes_begin c.args.session.now.current.bus.memory c.args.first c.args.count _ (search rules)

pub loop-offset-preserved : goal.loop-offset-preserved
loop-offset-preserved c = bytes_more c.args.session.now.current.bus.memory c.args.first c.loop-offset.offset c.args.count _ _ _ c.peek.ensures.within
    (omega (arith, c.loop-offset-test.true))
    (c.in_ok-push.ensures.items ∙ ap (λ b. c.loop-offset.bytes.items ++ b ∷ []) c.peek.ensures.value) c.loop-offset.invariant

pub returns : goal.returns
returns c =
    let all = bytes_done c.args.session.now.current.bus.memory c.args.first c.loop-offset.offset c.args.count _ _
    (omega (arith, c.loop-offset-test.false)) c.loop-offset.invariant in
    subst (λ (bs : List ℕ). IfOk c.encode.result (λ text. string_bytes text ≡ encode_of standard bs)) (c.as_slice.ensures.value ∙ all) c.encode.ensures.text
