use Rattle.std.proofs.Common.{◌≡◌, ◌++◌, [], List, ℕ}
use Rattle.std.specs.Io.KnownBytes.{Appends, Consumes}
use Rattle.word_mon.specs.Attended.{prompt_of}
use Rattle.word_mon.specs.Pieces.{GoesOn}
use Rattle.word_mon.proofs.lines.attend.Given as goal

-- the lines that have ended in what was read were served, and what was said then was written
abbrev pub invariant-loop : goal.invariant-loop
invariant-loop g l =
    (told : List ℕ) × Consumes (g.R.Read.remaining l.fn.reader) (g.R.Read.remaining l.reader) told
    × (before : List ℕ) × GoesOn (prompt_of l.fn.prompts) told l.begun.items l.fn.terminal l.terminal before
    × Appends (g.W.Write.contents l.fn.writer) (g.W.Write.contents l.writer) (l.fn.terminal.mon.text.items ++ (prompt_of l.fn.prompts ++ before))
    × (l.terminal.mon.text.items ≡ [])
