use Rattle.std.proofs.Common.{◌≡◌, ◌+◌, ◌-◌, ◌<◌, ◌≤◌, ◌++◌, ◌∷◌, [], arith, ap, sym, ◌∙◌, length, length-append, min, unwrap_or}
use Rattle.std.proofs.Math.Nat.{min-le_left}
use Rattle.std.proofs.lemmas.Option.{unwrap_or-slice_get}
use Rattle.replies.proofs.Rows.{digits_none, digits_step, digits_row}
use Rattle.replies.proofs.texts.output_row_text.Goals as goal

pub loop-index-init : goal.loop-index-init
loop-index-init c =
    let none : c.args.from - c.args.from ≡ 0 = omega arith in
    record {
      text = rw (none, digits_none) c.new-text.ensures;
      long = rw none (ap length c.new-text.ensures);
    }

pub loop-index-preserved : goal.loop-index-preserved
loop-index-preserved c =
    let out = c.args.session.now.current.bus.out in let from = c.args.from in let index = c.loop-index.index in
    let left : c.saturating_sub.result ≡ length out - from = c.saturating_sub.ensures ∙ ap (λ n. n - from) c.output_len.ensures in
    let few : c.min-count.result ≤ length out - from = omega (arith, left, c.min-count.ensures, min-le_left c.saturating_sub.result 32) in
    let within : index < length out = omega (arith, few, c.loop-index-test.true) in
    let value = c.unwrap_or.ensures ∙ ap (λ o. unwrap_or o 0) c.output_at.ensures ∙ unwrap_or-slice_get out index 0 in
    let pushed : length c.push_hex_byte.new.text.items ≡ length c.loop-index.text.items + 2 = ap length c.push_hex_byte.ensures ∙ length-append _ _ in
    record {
      text = digits_step out from index _ _ _ c.loop-index.auto.index within value c.loop-index.invariant.text c.push_hex_byte.ensures;
      long = omega (arith, pushed, c.loop-index.invariant.long, c.loop-index.auto.index);
    }

pub returns : goal.returns
returns c =
    let out = c.args.session.now.current.bus.out in let from = c.args.from in let index = c.loop-index.index in
    let count : index - from ≡ c.min-count.result = omega (arith, c.loop-index.auto.index, c.loop-index.auto.index-end, c.loop-index-test.false) in
    let left : c.min-count.result ≡ min (length out - from) 32 =
    c.min-count.ensures ∙ ap (λ n. min n 32) (c.saturating_sub.ensures ∙ ap (λ n. n - from) c.output_len.ensures) in
    c.push_bytes.ensures ∙ ap (λ l. l ++ 10 ∷ []) c.loop-index.invariant.text ∙ sym (digits_row out from (index - from) (count ∙ left))
