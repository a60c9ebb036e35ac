use Rattle.std.proofs.Common.{◌≤◌}
use Rattle.debug_files.proofs.Bytes.{HasBytesBelow}
use Rattle.debug_files.proofs.loaded.bytes_of.Given as goal

abbrev pub invariant-loop-place : goal.invariant-loop-place
invariant-loop-place l = record {
  few : l.place ≤ 65536;
  taken : HasBytesBelow l.session.current l.loaded l.image l.place;
}
