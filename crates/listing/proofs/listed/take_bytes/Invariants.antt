use Rattle.std.proofs.Common.{◌≡◌, ◌++◌, drop}
use Rattle.std.specs.Prelude.{map, unwrap_or}
use Rattle.model.specs.Listing.{bytes_at}
use Rattle.listing.proofs.listed.take_bytes.Given as goal

abbrev pub invariant-loop-cell : goal.invariant-loop-cell
invariant-loop-cell l = l.room.items ++ map (λ c. unwrap_or c 0) (drop l.cell-index l.part) ≡ bytes_at l.cells l.span.address l.span.count
