use Rattle.std.proofs.Common.{◌≡◌, ◌+◌, ◌-◌, ◌<◌, ◌≤◌, ◌++◌, ◌∷◌, [], arith, ap, sym, ◌∙◌, length, length-append, refl, inl, inr}
use Rattle.std.proofs.lemmas.Bool.{cases_lt}
use Rattle.model.specs.Text.{hex_address}
use Rattle.replies.proofs.Rows.{spaced_none, row_step, row_is}
use Rattle.replies.proofs.texts.row_text.Goals as goal
use Rattle.replies.proofs.texts.row_text.Goals.{else-loop-address-test, then-loop-address-test+else-address-last}

pub loop-address-init : goal.loop-address-init
loop-address-init c =
    let first = c.args.first in
    let none : c.args.first - c.args.first ≡ 0 = omega arith in
    let text = c.push_bytes.ensures ∙ ap (λ l. l ++ 32 ∷ []) (c.push_hex_address.ensures ∙ ap (λ l. l ++ hex_address first) c.new-text.ensures) in
    record {
      text = rw (none, spaced_none) text;
      long = rw none (ap length text);
      none = λ _. refl;
    }

pub loop-address-preserved : goal.loop-address-preserved
loop-address-preserved c =
    let spaced : length c.push_bytes-in-loop-address.new.text.items ≡ length c.loop-address.text.items + 1 =
    ap length c.push_bytes-in-loop-address.ensures ∙ length-append _ _ in
    let pushed : length c.push_hex_byte.new.text.items ≡ length c.push_bytes-in-loop-address.new.text.items + 2 =
    ap length c.push_hex_byte.ensures ∙ length-append _ _ in
    record {
      text = row_step _ c.args.first c.loop-address.address _ _ _ _ c.loop-address.auto.address c.peek.ensures.within c.peek.ensures.value
          c.loop-address.invariant.text c.push_bytes-in-loop-address.ensures c.push_hex_byte.ensures;
      long = omega (arith, spaced, pushed, c.loop-address.invariant.long, c.loop-address.auto.address);
      none = λ below. absurd (omega (arith, below, c.loop-address.auto.address, c.loop-address-test.true));
    }

pub returns : goal.returns
returns c =
    let memory = c.args.session.now.current.bus.memory in
    let first = c.args.first in let last = c.args.last in let address = c.loop-address.address in
    c.push_bytes-2.ensures ∙ elim c.loop-address-test.branch [
      | else-loop-address-test w ↦
          let empty : address ≡ first = elim (cases_lt last first) [
            | inl below ↦ c.loop-address.invariant.none below
            | inr le ↦ (let within : address ≤ last = c.loop-address.auto.address-end le in let past : last < address = w.loop-address-test.false in
                absurd (omega arith))
          ] in
          let n : address - first ≡ last + 1 - first = (let past : last < address = w.loop-address-test.false in omega arith) in
          ap (λ t. t.items ++ 10 ∷ []) w.text-is ∙ ap (λ l. l ++ 10 ∷ []) c.loop-address.invariant.text ∙ sym (row_is memory first last (address - first) n)
      | then-loop-address-test+else-address-last w ↦
          let n : address + 1 - first ≡ last + 1 - first = omega arith in
          let row = row_step memory first address _ _ _ _ c.loop-address.auto.address w.peek.ensures.within w.peek.ensures.value
          c.loop-address.invariant.text w.push_bytes-in-loop-address.ensures w.push_hex_byte.ensures in
          ap (λ t. t.items ++ 10 ∷ []) w.text-is ∙ ap (λ l. l ++ 10 ∷ []) row ∙ sym (row_is memory first last (address + 1 - first) n)
    ]
