use Rattle.std.proofs.Common.{◌+◌, ◌-◌, ◌∙◌, ap, arith}
use Rattle.mon_texts.specs.Pushed.{pushed_len}
use Rattle.mon_texts.proofs.Entries.{all_shown, entry_shown, none_left, none_on_stack}
use Rattle.mon_calls.proofs.calls.push_entries.Goals as goal

pub loop-preserved : goal.loop-preserved
loop-preserved c = record {
  within = omega (arith, c.loop.invariant.within, c.pushed_len-address.ensures.few, c.if-address-ge512.false);
  rest = entry_shown _ _ (256 - c.loop.counter) (256 - (c.loop.counter + 1)) _ _ _ _ _ (omega (arith, c.loop-test.true))
      (omega (arith, c.if-address-ge512.false))
      (ap (λ k. c.loop.address + k) (c.pushed_len-address.ensures.len ∙ ap pushed_len c.pushed_at.ensures))
      c.in_ok-push_entry.ensures c.loop.invariant.rest;
}

pub returns-then-address-ge512 : goal.returns-then-address-ge512
returns-then-address-ge512 c =
    all_shown _ _ _ (none_on_stack _ _ (256 - c.loop.counter) _ (omega (arith, c.if-address-ge512.true))) c.loop.invariant.rest

pub returns : goal.returns
returns c = all_shown _ _ _ (none_left _ _ (256 - c.loop.counter) _ (omega (arith, c.loop-test.false))) c.loop.invariant.rest
