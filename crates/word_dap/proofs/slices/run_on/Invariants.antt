use Rattle.std.proofs.Common.{List, map, option_map, ℕ}
use Rattle.std.specs.Io.KnownBytes.{Appends}
use Rattle.serde_json.specs.View.{view}
use Rattle.word_dap.specs.Slices.{MayRunOn, RunsOn}
use Rattle.dap_messages.specs.Messages.{said_of}
use Rattle.word_dap.proofs.slices.run_on.Given as goal

-- the run has gone on so often, and so much was written
abbrev pub invariant-loop : goal.invariant-loop
invariant-loop g l = (again : ℕ) × MayRunOn (option_map (λ s. s.now) l.seen) again × (written : List ℕ)
    × RunsOn again l.is_run (view l.request) (map said_of l.fn.messages.items) l.fn.adapter l.fn.sent (map said_of l.messages.items) l.adapter l.total written
    × Appends (g.O.Write.contents l.fn.output) (g.O.Write.contents l.output) written
