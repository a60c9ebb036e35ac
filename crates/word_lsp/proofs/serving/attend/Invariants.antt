use Rattle.std.proofs.Common.{List, ℕ}
use Rattle.std.specs.Io.KnownBytes.{Appends}
use Rattle.word_lsp.specs.Sessions.{Answers}
use Rattle.word_lsp.specs.State.{server_view, start}
use Rattle.json_messages.specs.Sessions.{IsServedSoFar}
use Rattle.word_lsp.proofs.serving.attend.Given as goal

-- the messages of what was read were served, and what was said then was written
abbrev pub invariant-loop : goal.invariant-loop
invariant-loop g l = (written : List ℕ)
    × IsServedSoFar (Answers l.map) (g.R.Read.remaining l.fn.input) (g.R.Read.remaining l.input) l.incoming.bytes start (server_view l.server) written
    × Appends (g.O.Write.contents l.fn.output) (g.O.Write.contents l.output) written
