use Rattle.std.proofs.Common.{◌≡◌, ◌++◌, drop}
use Rattle.page_data.specs.Format.{without_zeros}
use Rattle.page_data.proofs.marks.push_marked.Given as goal

abbrev pub invariant-loop-byte : goal.invariant-loop-byte
invariant-loop-byte l = l.written.items ++ without_zeros (drop l.byte-index l.bytes) ≡ l.initial.written.items ++ without_zeros l.bytes
