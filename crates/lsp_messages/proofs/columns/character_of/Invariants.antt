use Rattle.std.proofs.Common.{◌≡◌, min, sum_by, take}
use Rattle.lsp_messages.specs.Columns.{most, units_of}
use Rattle.lsp_messages.proofs.columns.character_of.Given as goal

abbrev pub invariant-loop-byte : goal.invariant-loop-byte
invariant-loop-byte l = l.count ≡ min most (sum_by units_of (take l.byte-index (take l.start l.line)))
