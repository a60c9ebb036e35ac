use Rattle.std.proofs.Common.{◌≡◌, ◌++◌, drop}
use Rattle.std.specs.List.{flat_map}
use Rattle.mon_screen.specs.Cells.{cell}
use Rattle.mon_screen.proofs.cells.push_each.Given as goal

abbrev pub invariant-loop-byte : goal.invariant-loop-byte
invariant-loop-byte l = l.text.items ++ flat_map cell (drop l.byte-index l.bytes) ≡ l.initial.text.items ++ flat_map cell l.bytes
