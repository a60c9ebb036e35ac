use Rattle.std.proofs.Common.{◌≡◌, [], false, take, List, ℕ}
use Rattle.std.specs.Io.KnownBytes.{Appends}
use Rattle.word_mon.specs.Attended.{prompt_of}
use Rattle.word_mon.specs.Pieces.{ServesPiece}
use Rattle.word_mon.proofs.lines.serve_bytes.Given as goal

-- the bytes so far were served, and what was said then was written
abbrev pub invariant-loop-byte : goal.invariant-loop-byte
invariant-loop-byte g l = record {
  fed : (more : List ℕ) × ServesPiece (record {
    bytes = take l.byte-index l.bytes;
    prompt = prompt_of l.fn.prompts;
    old = l.fn.terminal;
    kept = l.fn.begun.items;
    new = l.terminal;
    kept_then = l.begun.items;
    is_over = false;
    written = more;
  })
      × (l.fn.terminal.mon.text.items ≡ [] → Appends (g.W.Write.contents l.fn.writer) (g.W.Write.contents l.writer) more);
  written : l.fn.terminal.mon.text.items ≡ [] → l.terminal.mon.text.items ≡ [];
}
