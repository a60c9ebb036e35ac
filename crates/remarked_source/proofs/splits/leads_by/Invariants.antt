use Rattle.std.proofs.Common.{◌≡◌, ◌≤◌}
use Rattle.remarked_source.specs.Splits.{leads_by}
use Rattle.remarked_source.proofs.splits.leads_by.Given as goal

abbrev pub invariant-loop-left : goal.invariant-loop-left
invariant-loop-left l = record {
  found : leads_by l.cells l.split l.left l.low l.high ≡ leads_by l.cells l.split l.split.count l.low l.high;
  few : l.left ≤ l.split.count;
}

abbrev pub decreases-loop-left : goal.decreases-loop-left
decreases-loop-left l = l.left
