use Rattle.std.proofs.Common.{◌≡◌, ◌+◌, length, ◌∙◌, refl, arith}
use Rattle.source_forms.specs.Pieces.{is_flagged}
use Rattle.source_forms.specs.Rows.{mark_at}
use Rattle.reached.specs.Reached.{followed_mark, is_followed}
use Rattle.reached.proofs.Marked.{more}
use Rattle.reached.proofs.marking.followed_marks.Goals as goal

pub loop-address-preserved : goal.loop-address-preserved
loop-address-preserved c =
    let size : length c.loop-address.followed.items ≡ c.loop-address.address = c.loop-address.invariant.len in
    let grown : length c.push.new.self.items ≡ c.loop-address.address + 1 =
    omega (arith, c.in_ok-push.ensures.len, c.loop-address.invariant.len, c.loop-address.followed.ok.0, c.push.new.self.ok.0) in
    let last : c.followed_mark.result ≡ followed_mark (mark_at c.args.marks.now c.loop-address.address)
    (is_followed c.args.profile c.cells-cells.result.now c.args.marks.now c.in_ok-flags.flags.items c.loop-address.address)
    (is_flagged c.in_ok-letters.letters.items c.loop-address.address)
    = c.followed_mark.ensures ∙ rw (
      c.mark_at.ensures,
      c.is_followed-is_code.ensures,
      c.is_flagged-is_letter.ensures,
      c.as_slice-in-loop-address.ensures.value,
      c.as_slice-in-loop-address-2.ensures.value,
    ) refl in
    record {
      len = grown;
      each = more c.loop-address.followed.items c.push.new.self.items c.loop-address.address
          (λ a. followed_mark (mark_at c.args.marks.now a) (is_followed c.args.profile c.cells-cells.result.now c.args.marks.now
          c.in_ok-flags.flags.items a) (is_flagged c.in_ok-letters.letters.items a)) c.followed_mark.result size c.in_ok-push.ensures.items
          c.loop-address.invariant.each last;
    }

pub returns : goal.returns
returns c =
    let spoken = rw (c.as_slice.ensures.value, c.cells-cells.ensures.same) at c.in_ok-letters.ensures in
    let full : c.loop-address.address ≡ 65536 = omega (arith, c.loop-address-test.false, c.loop-address.auto.address-end) in
    record {
      reached = c.in_ok-flags.flags.items;
      exact = c.in_ok-flags.ensures;
      size = c.loop-address.invariant.len ∙ full;
      each = λ a below. rw (c.cells-cells.ensures.same, spoken) at c.loop-address.invariant.each a (omega (arith, below, full));
    }
