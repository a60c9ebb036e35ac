use Rattle.std.proofs.Common.{List, option_map, ℕ}
use Rattle.std.specs.Io.KnownBytes.{Appends}
use Rattle.word_dap.specs.Attended.{Turns}
use Rattle.json_messages.specs.Sessions.{IsServedSoFar}
use Rattle.word_dap.proofs.serving.take_turns.Given as goal

-- the messages of what was read were served, and so much was written
abbrev pub invariant-loop : goal.invariant-loop
invariant-loop g l = (written : List ℕ)
    × IsServedSoFar (Turns (option_map (λ s. s.now) l.seen)) (g.R.Read.remaining l.fn.input) (g.R.Read.remaining l.input) l.incoming.bytes
    (l.fn.adapter, 0) (l.adapter, l.sent) written
    × Appends (g.O.Write.contents l.fn.output) (g.O.Write.contents l.output) written
