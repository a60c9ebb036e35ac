use Rattle.std.proofs.Common.{◌≡◌, ◌∙◌, ℕ, suc, ◌+◌, ◌-◌, sym, ap, arith}
use Rattle.dap_messages.specs.Listed.{reserved}
use Rattle.dap_messages.specs.Messages.{next_number}
use Rattle.dap_messages.proofs.listed.behind.Goals as goal

one_less : (n k next whole : ℕ) → n ≡ suc k → reserved next n ≡ whole → reserved (next_number next) k ≡ whole
unfolding reserved
one_less n k next whole e so_far = sym (ap (reserved next) e) ∙ so_far

none_left : (n next whole : ℕ) → n ≡ 0 → reserved next n ≡ whole → next ≡ whole
unfolding reserved
none_left n next whole e so_far = sym (ap (reserved next) e) ∙ so_far

pub loop-init : goal.loop-init
loop-init c = ap (reserved c.args.first) (omega arith)

pub loop-preserved : goal.loop-preserved
loop-preserved c = ap (λ k. reserved k (c.args.count - (c.loop.counter + 1))) c.next_number-next.ensures
    ∙ one_less (c.args.count - c.loop.counter) (c.args.count - (c.loop.counter + 1)) c.loop.next _ (omega (arith, c.loop-test.true)) c.loop.invariant

pub returns : goal.returns
returns c = none_left (c.args.count - c.loop.counter) c.loop.next _ (omega (arith, c.loop-test.false)) c.loop.invariant
