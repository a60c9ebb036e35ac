use Rattle.std.proofs.Common.{◌≡◌, ◌≤◌, ◌+◌, take, length}
use Rattle.debugger.proofs.trail.put_aside.Given as goal

abbrev pub invariant-loop-kept : goal.invariant-loop-kept
invariant-loop-kept l = record {
  kept : l.kept.items ≡ take (length l.kept.items) l.fn.kept.items;
  few : l.count ≤ length l.kept.items;
  all : length l.kept.items + length l.spare.items ≡ length l.fn.kept.items + length l.fn.spare.items;
  kept_room : l.kept.capacity ≡ l.fn.kept.capacity;
  spare_room : l.spare.capacity ≡ l.fn.spare.capacity;
}

abbrev pub decreases-loop-kept : goal.decreases-loop-kept
decreases-loop-kept l = length l.kept.items
