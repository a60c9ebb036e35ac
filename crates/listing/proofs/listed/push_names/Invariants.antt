use Rattle.std.proofs.Common.{◌≡◌, ◌++◌}
use Rattle.model.specs.Listing.{names_rows}
use Rattle.listing.proofs.RowsLeft.{names_left}
use Rattle.listing.proofs.listed.push_names.Given as goal

abbrev pub invariant-loop-index : goal.invariant-loop-index
invariant-loop-index l = l.out.items ++ names_left l.names l.index ≡ l.fn.out.items ++ names_rows l.names
