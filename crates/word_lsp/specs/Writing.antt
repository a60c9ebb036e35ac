-- Values written as messages. Source: Language Server Protocol 3.17, "Base Protocol".
use Rattle.std.specs.Prelude.{◌≡◌, ℕ, List, [], ◌∷◌, ◌++◌}
use Rattle.json_messages.specs.Bodies.{IsTextOf}
use Rattle.json_messages.specs.Messages.{framed}
use Rattle.serde_json.specs.Data.{Data}

-- These values are written as messages, in their order.
unfoldable pub AreWritten : List Data → List ℕ → Type 0
AreWritten [] written = written ≡ []
AreWritten (d ∷ ds) written = (text : List ℕ) × (behind : List ℕ) × IsTextOf d text
    × AreWritten ds behind × (written ≡ framed text ++ behind)
