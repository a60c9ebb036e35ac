use Rattle.std.proofs.Common.{◌≡◌, suc, ◌-◌, sym, ◌∙◌, arith}
use Rattle.source_forms.specs.Labels.{table_of}
use Rattle.source_writer.proofs.LabelledGoing.{table_end}
use Rattle.source_writer.proofs.table.table_of.Goals as goal

pub loop-left-preserved : goal.loop-left-preserved
loop-left-preserved c =
    let one : suc (c.loop-left.left - 1) ≡ c.loop-left.left = omega arith in
    record {
      found = rw one at (c.name_at-next.ensures.set (c.loop-left.left - 1)) ∙ c.loop-left.invariant.found;
      size = c.name_at-next.ensures.len;
      near = omega (arith, c.name_at-next.ensures.within);
      few = omega arith;
    }

pub returns : goal.returns
unfolding table_of
returns c =
    let none : c.loop-left.left ≡ 0 = omega arith in
    sym (table_end c.args.profile c.args.cells.now c.args.marks.now c.args.flags.now c.loop-left.names c.loop-left.address c.loop-left.table.items)
    ∙ rw none at c.loop-left.invariant.found
