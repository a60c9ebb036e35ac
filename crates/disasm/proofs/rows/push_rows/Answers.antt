use Rattle.std.proofs.Common.{◌≡◌, ℕ, List, ◌++◌, ap, ◌∙◌, sym, append-nil, arith}
use Rattle.disasm.proofs.RowByRow.{window, row_within, turn, behind, no_row}
use Rattle.disasm.proofs.rows.push_rows.Goals as goal

pub loop-left-preserved : goal.loop-left-preserved
loop-left-preserved c =
    record {
      written = turn c.args.profile c.args.memory.now c.loop-left.out.items c.extend_from_slice.new.self.items _ _ c.args.last c.loop-left.address
          c.loop-left.left c.row_text_in-row.result.len c.loop-left-test.true c.if-address-last.true
          (window c.args.memory.now c.loop-left.address c.min.result c.min.ensures)
          (c.in_ok-extend_from_slice.ensures.items ∙ ap (λ (x : List ℕ). c.loop-left.out.items ++ x)
          (c.as_slice.ensures.value ∙ c.row_text_in-row.ensures.text))
          c.row_text_in-row.ensures.len c.loop-left.invariant.written;
      within = row_within c.args.memory.now _ c.loop-left.address c.row_text_in-row.result.len (omega arith) c.requires
          (window c.args.memory.now c.loop-left.address c.min.result c.min.ensures) c.row_text_in-row.ensures.within;
    }

pub returns-else-address-last : goal.returns-else-address-last
returns-else-address-last c =
    sym (append-nil _) ∙ ap (λ (x : List ℕ). c.loop-left.out.items ++ x)
    (sym (behind c.args.profile c.args.memory.now c.args.last c.loop-left.address c.loop-left.left c.if-address-last.false)) ∙ c.loop-left.invariant.written

pub returns-after-loop-left : goal.returns-after-loop-left
returns-after-loop-left c =
    let none : c.loop-left.left ≡ 0 = omega arith in
    sym (append-nil _) ∙ ap (λ (x : List ℕ). c.loop-left.out.items ++ x)
    (sym (no_row c.args.profile c.args.memory.now c.args.last c.loop-left.address)) ∙ rw none at c.loop-left.invariant.written
