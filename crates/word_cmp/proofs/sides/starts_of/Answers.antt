use Rattle.std.proofs.Common.{◌≡◌, ℕ, ◌+◌, ◌-◌, ◌∙◌, sym, ap, arith}
use Rattle.word_cmp.specs.DifferenceRows.{Reading, read_below, starts_below}
use Rattle.word_cmp.proofs.Starts.{read_none, start_none, left_none, begun, continued, one_start_more}
use Rattle.word_cmp.proofs.sides.starts_of.Goals as goal
use Rattle.word_cmp.proofs.sides.starts_of.Goals.{then-left-eq0, else-left-eq0}

pub loop-address-init : goal.loop-address-init
loop-address-init c = record {
  list = c.new-starts.ensures.items ∙ sym (read_none c.args.profile c.args.image.now);
  start = sym (start_none c.args.profile c.args.image.now);
  left = sym (left_none c.args.profile c.args.image.now);
}

pub loop-address-preserved : goal.loop-address-preserved
loop-address-preserved c =
    let profile = c.args.profile in
    let image = c.args.image.now in
    let read : read_below profile image (c.loop-address.address + 1) ≡ record { start = c.if-left-eq0.start; left = c.if-left-eq0.left - 1 } =
    elim c.if-left-eq0.branch [
      | then-left-eq0 w ↦ begun profile image c.loop-address.address c.loop-address.left _ _ c.loop-address.invariant.left w.if-left-eq0.true
          w.start-is (w.left-is ∙ w.instruction_len-left.ensures)
      | else-left-eq0 w ↦ continued profile image c.loop-address.address c.loop-address.start c.loop-address.left _ _ c.loop-address.invariant.start
          c.loop-address.invariant.left (omega (arith, w.if-left-eq0.false)) w.start-is w.left-is
    ] in
    let start : c.if-left-eq0.start ≡ (read_below profile image (c.loop-address.address + 1)).start = sym (ap (λ (r : Reading). r.start) read) in
    record {
      list = one_start_more profile image c.loop-address.address c.if-left-eq0.start c.loop-address.starts.items c.push.new.self.items
          c.loop-address.invariant.list start c.in_ok-push.ensures.items;
      start = start;
      left = c.saturating_sub-left.ensures ∙ sym (ap (λ (r : Reading). r.left) read);
    }

pub returns : goal.returns
returns c =
    let last : c.loop-address.address ≡ 65536 = omega arith in
    c.loop-address.invariant.list ∙ ap (λ (n : ℕ). starts_below c.args.profile c.args.image.now n) last
