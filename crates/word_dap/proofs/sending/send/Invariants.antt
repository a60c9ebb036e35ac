use Rattle.std.proofs.Common.{◌++◌, drop, map, List, ℕ}
use Rattle.std.specs.Io.KnownBytes.{Appends}
use Rattle.serde_json.specs.View.{view}
use Rattle.word_dap.specs.Sent.{AreSent}
use Rattle.dap_messages.specs.Messages.{said_of}
use Rattle.word_dap.proofs.sending.send.Given as goal

-- so much was written, and what the rest of the messages gives comes behind it
abbrev pub invariant-loop-message : goal.invariant-loop-message
invariant-loop-message g l = (written : List ℕ)
    × Appends (g.W.Write.contents l.fn.writer) (g.W.Write.contents l.writer) written
    × ((total : ℕ) (behind : List ℕ) → AreSent l.sent (view l.request) (map said_of (drop l.message-index l.messages)) total behind
    → AreSent l.fn.sent (view l.request) (map said_of l.messages) total (written ++ behind))
