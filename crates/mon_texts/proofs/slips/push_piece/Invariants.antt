use Rattle.std.proofs.Common.{◌≡◌, ◌++◌, drop}
use Rattle.std.specs.List.{flat_map}
use Rattle.mon_texts.specs.Slips.{quoted_byte}
use Rattle.mon_texts.proofs.slips.push_piece.Given as goal

abbrev pub invariant-loop-byte : goal.invariant-loop-byte
invariant-loop-byte l = l.text.items ++ flat_map quoted_byte (drop l.byte-index l.piece) ≡ l.initial.text.items ++ flat_map quoted_byte l.piece
