use Rattle.std.proofs.Common.{◌≡◌, ◌++◌, take}
use Rattle.page_data.specs.Safe.{escaped}
use Rattle.page_data.proofs.text.push_escaped.Given as goal

abbrev pub invariant-loop-byte : goal.invariant-loop-byte
invariant-loop-byte l = l.text.items ≡ l.initial.text.items ++ escaped (take l.byte-index l.bytes)
