use Rattle.std.proofs.Common.{List, ℕ}
use Rattle.std.specs.Io.KnownBytes.{Appends, Consumes}
use Rattle.engine.proofs.Feeds.{ServesSoFar}
use Rattle.engine.proofs.lines.serve.Given as goal

-- what was told so far was served, but for the line begun
abbrev pub invariant-loop : goal.invariant-loop
invariant-loop g l =
    (told : List ℕ) × (text : List ℕ) × Consumes (g.R.Read.remaining l.fn.reader) (g.R.Read.remaining l.reader) told
    × Appends (g.W.Write.contents l.fn.writer) (g.W.Write.contents l.writer) text × ServesSoFar l.fn.session told text l.session l.begun.items
