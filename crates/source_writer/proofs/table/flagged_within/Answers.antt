use Rattle.std.proofs.Common.{◌≡◌, sym, ◌∙◌, ap, arith}
use Rattle.source_forms.specs.Labels.{flagged_within}
use Rattle.source_writer.proofs.Withins.{found, goes_on, none}
use Rattle.source_writer.proofs.table.flagged_within.Goals as goal

pub returns-then-is_flagged : goal.returns-then-is_flagged
returns-then-is_flagged c =
    sym (c.loop-left.invariant.found ∙ found c.args.flags.now c.loop-left.left c.loop-left.at c.loop-left-test.true
    (sym c.is_flagged.ensures ∙ c.if-is_flagged.true))

pub loop-left-preserved : goal.loop-left-preserved
loop-left-preserved c = record {
  found = c.loop-left.invariant.found ∙ goes_on c.args.flags.now c.loop-left.left c.loop-left.at c.loop-left-test.true
      (sym c.is_flagged.ensures ∙ c.if-is_flagged.false);
  near = omega (arith, c.loop-left.invariant.near, c.loop-left-test.true);
}

pub returns : goal.returns
returns c =
    let zero_left : c.loop-left.left ≡ 0 = omega (arith, c.loop-left-test.false) in
    sym (rw zero_left at c.loop-left.invariant.found ∙ none c.args.flags.now c.loop-left.at)
