use Rattle.std.proofs.Common.{◌++◌, drop, map, List, ℕ}
use Rattle.std.specs.Io.KnownBytes.{Appends}
use Rattle.serde_json.specs.View.{view}
use Rattle.word_lsp.specs.Writing.{AreWritten}
use Rattle.word_lsp.proofs.serving.write_values.Given as goal

-- so much was written, and what the rest of the values gives comes behind it
abbrev pub invariant-loop-value : goal.invariant-loop-value
invariant-loop-value g l = (written : List ℕ)
    × Appends (g.O.Write.contents l.fn.output) (g.O.Write.contents l.output) written
    × ((behind : List ℕ) → AreWritten (map view (drop l.value-index l.value-items)) behind → AreWritten (map view l.value-items) (written ++ behind))
