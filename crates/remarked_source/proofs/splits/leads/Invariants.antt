use Rattle.std.proofs.Common.{◌≡◌, drop}
use Rattle.remarked_source.specs.Splits.{leads}
use Rattle.remarked_source.proofs.splits.leads.Given as goal

abbrev pub invariant-loop-split : goal.invariant-loop-split
invariant-loop-split l = leads l.cells (drop l.split-index l.splits) l.low l.high ≡ leads l.cells l.splits l.low l.high
