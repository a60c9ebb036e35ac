use Rattle.std.proofs.Common.{◌≡◌, ◌+◌, take, drop, length}
use Rattle.replies.proofs.views.bytes_at.Given as goal

abbrev pub invariant-loop-place : goal.invariant-loop-place
invariant-loop-place l = record {
  bytes : l.bytes.items ≡ take (l.place + 1) (drop l.address l.session.current.bus.memory);
  few : length l.bytes.items ≡ l.place + 1;
}
