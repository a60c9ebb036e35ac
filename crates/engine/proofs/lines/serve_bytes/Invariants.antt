use Rattle.std.proofs.Common.{◌≡◌, drop, List, ℕ}
use Rattle.std.specs.Io.KnownBytes.{Appends}
use Rattle.engine.specs.Feeding.{feed, fed_after}
use Rattle.engine.proofs.lines.serve_bytes.Given as goal

-- what all of the bytes give is what was written and what the rest of them gives
abbrev pub invariant-loop-byte : goal.invariant-loop-byte
invariant-loop-byte g l =
    (text : List ℕ) × Appends (g.W.Write.contents l.fn.writer) (g.W.Write.contents l.writer) text
    × (feed l.fn.session l.fn.begun.items l.bytes ≡ fed_after text (feed l.session l.begun.items (drop l.byte-index l.bytes)))
