use Rattle.std.proofs.Common.{◌≡◌, ◌++◌, take}
use Rattle.word_debug.proofs.heard.Heard.hear.Given as goal

abbrev pub invariant-loop-byte : goal.invariant-loop-byte
invariant-loop-byte l = l.self.told.items ≡ l.fn.self.told.items ++ take l.byte-index l.bytes
