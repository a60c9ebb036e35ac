use Rattle.std.proofs.Common.{◌≡◌, ℕ, not, length, sym, ap, ◌∙◌, arith}
use Rattle.dump_faults.specs.Faults.{same_cell}
use Rattle.model.specs.Image.{cell_at}
use Rattle.word_cmp.specs.Differences.{differences_below}
use Rattle.word_cmp.proofs.Below.{nothing_below, no_more, one_more, each_address, equal_images}
use Rattle.word_cmp.proofs.comparing.differences.Goals as goal
use Rattle.word_cmp.proofs.comparing.differences.Goals.{then-is_different+in_ok-push, else-is_different}

pub loop-address-init : goal.loop-address-init
loop-address-init c = c.new-found.ensures.items ∙ sym (nothing_below c.args.one.now c.args.other.now)

pub loop-address-preserved : goal.loop-address-preserved
loop-address-preserved c =
    let one = c.args.one.now in
    let other = c.args.other.now in
    let n = c.loop-address.address in
    let told : c.is_different.result ≡ not (same_cell (cell_at one n) (cell_at other n)) =
    rw (← c.get.ensures, ← c.get-in-loop-address.ensures) c.is_different.ensures in
    elim c.if-is_different.branch [
      | then-is_different+in_ok-push w ↦ rw w.found-is (one_more one other n c.loop-address.found.items w.push.new.self.items
          (sym told ∙ w.if-is_different.true) c.loop-address.invariant w.in_ok-push.ensures.items)
      | else-is_different w ↦ rw w.found-is (no_more one other n c.loop-address.found.items (sym told ∙ w.if-is_different.false) c.loop-address.invariant)
    ]

pub returns-clause-each : goal.returns-clause-each
returns-clause-each c = λ address.
    let one = c.args.one.now in
    let other = c.args.other.now in
    let size : length one ≡ length other = omega (arith, c.cells.ensures.image.size, c.cells-2.ensures.image.size) in
    let last : c.loop-address.address ≡ length one = omega (arith, c.cells.ensures.image.size, c.loop-address-test.false, c.loop-address.auto.address-end) in
    each_address one other c.loop-address.found.items size (c.loop-address.invariant ∙ ap (λ (n : ℕ). differences_below one other n) last) address

pub returns-clause-equal : goal.returns-clause-equal
returns-clause-equal c =
    let one = c.args.one.now in
    let other = c.args.other.now in
    let size : length one ≡ length other = omega (arith, c.cells.ensures.image.size, c.cells-2.ensures.image.size) in
    let last : c.loop-address.address ≡ length one = omega (arith, c.cells.ensures.image.size, c.loop-address-test.false, c.loop-address.auto.address-end) in
    equal_images one other c.loop-address.found.items size (c.loop-address.invariant ∙ ap (λ (n : ℕ). differences_below one other n) last)
