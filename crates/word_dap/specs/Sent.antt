-- Messages as they are written. Source: Debug Adapter Protocol 1.65, "Base protocol".
use Rattle.std.specs.Prelude.{ℕ, ◌≡◌, List, [], ◌∷◌, ◌++◌}
use Rattle.dap_messages.specs.Messages.{Said, data_of, next_number}
use Rattle.json_messages.specs.Bodies.{IsTextOf}
use Rattle.json_messages.specs.Messages.{framed}
use Rattle.serde_json.specs.Data.{Data}

-- A message is sent with this number, and this is written.
abbrev pub IsSent : ℕ → Data → Said → List ℕ → Type 0
IsSent n request s written = (text : List ℕ) × IsTextOf (data_of n request s) text
    × (written ≡ framed text)

-- After so many messages, these are sent, up to so many, and this is written.
unfoldable pub AreSent : ℕ → Data → List Said → ℕ → List ℕ → Type 0
AreSent sent request [] total written = (total ≡ sent) × (written ≡ [])
AreSent sent request (s ∷ rest) total written = (front : List ℕ) × (behind : List ℕ)
    × IsSent (next_number sent) request s front
    × AreSent (next_number sent) request rest total behind × (written ≡ front ++ behind)

-- A beginning of that is written.
abbrev pub AreBegun : ℕ → Data → List Said → List ℕ → Type 0
AreBegun sent request said written = (total : ℕ) × (all : List ℕ) × (rest : List ℕ)
    × AreSent sent request said total all × (all ≡ written ++ rest)
