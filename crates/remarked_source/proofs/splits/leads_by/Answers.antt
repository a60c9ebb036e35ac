use Rattle.std.proofs.Common.{◌≡◌, ◌-◌, ◌∙◌, sym, ap, arith}
use Rattle.remarked_source.specs.Splits.{leads_in}
use Rattle.remarked_source.proofs.SplitTables.{leads_here, leads_more, leads_none}
use Rattle.remarked_source.proofs.splits.leads_by.Goals as goal

pub returns-then-leads_in : goal.returns-then-leads_in
returns-then-leads_in c =
    leads_here c.args.cells.now c.args.split c.args.low c.args.high c.loop-left.left _ c.loop-left-test.true
    (sym (c.leads_in.ensures ∙ ap (leads_in c.args.low c.args.high) c.target_at.ensures) ∙ c.if-leads_in.true) c.loop-left.invariant.found

pub loop-left-preserved : goal.loop-left-preserved
loop-left-preserved c = record {
  found = leads_more c.args.cells.now c.args.split c.args.low c.args.high c.loop-left.left _ c.loop-left-test.true
      (sym (c.leads_in.ensures ∙ ap (leads_in c.args.low c.args.high) c.target_at.ensures) ∙ c.if-leads_in.false) c.loop-left.invariant.found;
  few = omega (arith, c.loop-left.invariant.few);
}

pub returns : goal.returns
returns c =
    let zero_left : c.loop-left.left ≡ 0 = omega (arith, c.loop-left-test.false) in
    leads_none c.args.cells.now c.args.split c.args.low c.args.high _ (rw zero_left at c.loop-left.invariant.found)
