use Rattle.std.proofs.Common.{◌≡◌, ℕ, suc, ◌-◌, List, ◌++◌, sym, ap, ◌∙◌, append-nil, arith}
use Rattle.source_writer.proofs.LabelledGoing.{lines_end}
use Rattle.source_writer.proofs.labelled.push_lines.Goals as goal

pub loop-left-preserved : goal.loop-left-preserved
loop-left-preserved c =
    let one : suc (c.loop-left.left - 1) ≡ c.loop-left.left = omega arith in
    record {
      written = rw one at (c.in_ok-place.ensures.text (c.loop-left.left - 1)) ∙ c.loop-left.invariant.written;
      near = omega (arith, c.in_ok-place.ensures.within);
      few = omega arith;
    }

pub returns : goal.returns
returns c =
    let none : c.loop-left.left ≡ 0 = omega arith in
    sym (append-nil c.loop-left.out.items)
    ∙ ap (λ (x : List ℕ). c.loop-left.out.items ++ x) (sym (lines_end c.args.profile c.args.cells.now c.args.marks.now c.args.flags.now
    c.args.table.now c.loop-left.place.names c.loop-left.place.address c.loop-left.place.ends))
    ∙ rw none at c.loop-left.invariant.written
