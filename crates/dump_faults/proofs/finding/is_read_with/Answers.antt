use Rattle.std.proofs.Common.{◌≡◌, ◌∙◌, ℕ, sym, ap, arith}
use Rattle.dump_faults.specs.Faults.{holds_below, is_right_at}
use Rattle.dump_faults.proofs.Below.{fails_below, none_below, one_more, told}
use Rattle.dump_faults.proofs.finding.is_read_with.Goals as goal

pub loop-address-init : goal.loop-address-init
loop-address-init c = none_below (is_right_at c.args.fault c.args.dump.now c.args.good.now)

pub loop-address-preserved : goal.loop-address-preserved
loop-address-preserved c =
    one_more (is_right_at c.args.fault c.args.dump.now c.args.good.now) c.loop-address.address c.loop-address.invariant
    (sym c.is_right_at-in-loop-address.ensures ∙ c.if-not-is_right_at-2.false)

pub returns-then-not-is_right_at-clause-value : goal.returns-then-not-is_right_at-clause-value
returns-then-not-is_right_at-clause-value c =
    sym (fails_below (is_right_at c.args.fault c.args.dump.now c.args.good.now) 65536 c.args.first (omega (arith, c.ranges.first.fits))
    (sym c.is_right_at.ensures ∙ c.if-not-is_right_at.true))

pub returns-then-not-is_right_at-clause-means : goal.returns-then-not-is_right_at-clause-means
returns-then-not-is_right_at-clause-means c =
    told c.args.fault c.args.dump.now c.args.good.now _
    (sym (fails_below (is_right_at c.args.fault c.args.dump.now c.args.good.now) 65536 c.args.first (omega (arith, c.ranges.first.fits))
    (sym c.is_right_at.ensures ∙ c.if-not-is_right_at.true)))

pub returns-then-not-is_right_at-2-clause-value : goal.returns-then-not-is_right_at-2-clause-value
returns-then-not-is_right_at-2-clause-value c =
    sym (fails_below (is_right_at c.args.fault c.args.dump.now c.args.good.now) 65536 c.loop-address.address c.loop-address-test.true
    (sym c.is_right_at-in-loop-address.ensures ∙ c.if-not-is_right_at-2.true))

pub returns-then-not-is_right_at-2-clause-means : goal.returns-then-not-is_right_at-2-clause-means
returns-then-not-is_right_at-2-clause-means c =
    told c.args.fault c.args.dump.now c.args.good.now _
    (sym (fails_below (is_right_at c.args.fault c.args.dump.now c.args.good.now) 65536 c.loop-address.address c.loop-address-test.true
    (sym c.is_right_at-in-loop-address.ensures ∙ c.if-not-is_right_at-2.true)))

pub returns-clause-means : goal.returns-clause-means
returns-clause-means c =
    let last : c.loop-address.address ≡ 65536 = omega (arith, c.loop-address-test.false, c.loop-address.auto.address-end) in
    told c.args.fault c.args.dump.now c.args.good.now _
    (sym c.loop-address.invariant ∙ ap (λ (n : ℕ). holds_below (is_right_at c.args.fault c.args.dump.now c.args.good.now) n) last)
