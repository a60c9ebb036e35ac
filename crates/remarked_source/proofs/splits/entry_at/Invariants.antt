use Rattle.std.proofs.Common.{◌≡◌, drop}
use Rattle.remarked_source.specs.Splits.{entry_at}
use Rattle.remarked_source.proofs.splits.entry_at.Given as goal

abbrev pub invariant-loop-split : goal.invariant-loop-split
invariant-loop-split l = entry_at l.cells (drop l.split-index l.splits) l.address ≡ entry_at l.cells l.splits l.address
