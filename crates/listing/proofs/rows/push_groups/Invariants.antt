use Rattle.std.proofs.Common.{◌≡◌, ◌+◌, ◌-◌, ◌++◌, ◌<◌, ◌^◌, length, take}
use Rattle.model.specs.Listing.{group_rows}
use Rattle.listing.proofs.rows.push_groups.Given as goal

abbrev pub invariant-loop-rest : goal.invariant-loop-rest
invariant-loop-rest l = record {
  same : l.out.items ++ group_rows l.at l.rest ≡ l.fn.out.items ++ group_rows l.address l.bytes;
  kept : take (length l.fn.out.items) l.out.items ≡ l.fn.out.items;
  room : 0 < length l.rest → l.at + length l.rest < 2 ^ 32 - 3;
}

abbrev pub decreases-loop-rest : goal.decreases-loop-rest
decreases-loop-rest l = length l.rest
