use Rattle.word_mend.proofs.Appended.{at_end, within, all_put}
use Rattle.std.proofs.Common.{◌≡◌, ◌++◌, drop, sym, ◌∙◌, ap, ◌+◌}
use Rattle.word_mend.specs.Mending.{is_at_end, with_line_ends}
use Rattle.word_mend.proofs.parts.push_records.Goals as goal
use Rattle.word_mend.proofs.parts.push_records.Goals.{then-is_at_end+in_ok-extend_from_slice, else-is_at_end}

pub loop-place-preserved : goal.loop-place-preserved
loop-place-preserved c =
    let bytes = c.args.records.now in
    let i = c.loop-place.place in
    let whole = c.args.out.now.items ++ with_line_ends bytes in
    let same : is_at_end c.split_at.result.1.now ≡ is_at_end (drop (i + 1) bytes) = ap is_at_end c.split_at.ensures.back in
    elim c.if-is_at_end.branch [
      | then-is_at_end+in_ok-extend_from_slice w ↦
          rw w.out-is (at_end bytes c.loop-place.out.items c.push.new.self.items w.extend_from_slice.new.self.items whole i c.loop-place-test.true
          (sym same ∙ sym c.is_at_end.ensures ∙ w.if-is_at_end.true) c.in_ok-push.ensures.items w.in_ok-extend_from_slice.ensures.items c.loop-place.invariant)
      | else-is_at_end w ↦
          rw w.out-is (within bytes c.loop-place.out.items c.push.new.self.items whole i c.loop-place-test.true
          (sym same ∙ sym c.is_at_end.ensures ∙ w.if-is_at_end.false) c.in_ok-push.ensures.items c.loop-place.invariant)
    ]

pub returns : goal.returns
returns c = all_put c.args.records.now c.loop-place.out.items (c.args.out.now.items ++ with_line_ends c.args.records.now) c.loop-place.place
    c.loop-place-test.false c.loop-place.invariant
