use Rattle.std.proofs.Common.{◌≡◌, ◌+◌, ◌-◌, ◌++◌, take, drop}
use Rattle.papertape.specs.Writing.{front_bytes}
use Rattle.papertape.proofs.piece.fill.Given as goal

abbrev pub invariant-loop-i : goal.invariant-loop-i
invariant-loop-i l = take l.i l.bytes ++ front_bytes (24 - l.i) (drop (l.address + l.i) l.cells) ≡ front_bytes 24 (drop l.address l.cells)
