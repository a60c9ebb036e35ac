use Rattle.std.proofs.Common.{◌≡◌, ◌+◌, ◌++◌, arith, ap, ◌∙◌, sym, length, [], ◌∷◌, take, drop}
use Rattle.replies.proofs.Lists.{bytes_first, bytes_more, bytes_all}
use Rattle.replies.proofs.views.bytes_at.Goals as goal

pub loop-place-init : goal.loop-place-init
loop-place-init c = record {
  bytes = c.push.ensures.items ∙ ap (λ l. l ++ c.peek.result ∷ []) c.new-bytes.ensures ∙ ap (λ b. b ∷ []) c.peek.ensures.value
      ∙ sym (bytes_first c.args.session.now.current.bus.memory c.args.address c.peek.ensures.within);
  few = let none : length c.new-bytes.result.items ≡ 0 = ap length c.new-bytes.ensures in omega (arith, c.push.ensures.len);
}

pub loop-place-preserved : goal.loop-place-preserved
loop-place-preserved c =
    let memory = c.args.session.now.current.bus.memory in let address = c.args.address in let place = c.loop-place.place in
    record {
      bytes = c.push-in-loop-place.ensures.items ∙ ap (λ l. l ++ c.peek-in-loop-place.result ∷ []) c.loop-place.invariant.bytes
          ∙ ap (λ b. take (place + 1) (drop address memory) ++ b ∷ []) c.peek-in-loop-place.ensures.value
          ∙ bytes_more memory address place c.peek-in-loop-place.ensures.within;
      few = omega (arith, c.push-in-loop-place.ensures.len, c.loop-place.invariant.few);
    }

pub returns-clause-bytes : goal.returns-clause-bytes
returns-clause-bytes c =
    let last : c.loop-place.place ≡ c.min-more.result = omega arith in
    c.loop-place.invariant.bytes ∙ bytes_all c.args.session.now.current.bus.memory c.args.address c.loop-place.place c.peek.ensures.size (omega arith)
    (last ∙ c.min-more.ensures)
