use Rattle.std.proofs.Common.{◌≡◌, suc, ◌-◌, sym, ◌∙◌, arith}
use Rattle.source_forms.specs.Labels.{flags_of}
use Rattle.source_writer.proofs.LabelledGoing.{flags_end}
use Rattle.source_writer.proofs.flags.flags_of.Goals as goal

pub loop-left-preserved : goal.loop-left-preserved
loop-left-preserved c =
    let one : suc (c.loop-left.left - 1) ≡ c.loop-left.left = omega arith in
    record {
      found = rw one at (c.flag_at-address.ensures.set (c.loop-left.left - 1)) ∙ c.loop-left.invariant.found;
      size = c.flag_at-address.ensures.len;
      near = omega (arith, c.flag_at-address.ensures.within);
      few = omega arith;
    }

pub returns-clause-exact : goal.returns-clause-exact
unfolding flags_of
returns-clause-exact c =
    let none : c.loop-left.left ≡ 0 = omega arith in
    sym (flags_end c.args.profile c.args.cells.now c.args.marks.now c.loop-left.address c.loop-left.flags.items) ∙ rw none at c.loop-left.invariant.found
