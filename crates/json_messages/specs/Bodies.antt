-- Values as the bodies of messages. Source: RFC 8259.
use Rattle.std.specs.Prelude.{ℕ, ◌≡◌, IsUtf8, false, List, Option, Some, None}
use Rattle.serde_json.specs.Data.{Data}
use Rattle.serde_json.specs.Read.{read}
use Rattle.serde_json.specs.Written.{compact_text, has_float}

-- What a body says: a message, or nothing if it is no JSON.
abbrev pub IsMessage : List ℕ → Option Data → Type 0
IsMessage body (Some message) = IsUtf8 body × (read body ≡ Some message)
IsMessage body None = IsUtf8 body → read body ≡ None

-- A text of a value. A value with a float can have several.
abbrev pub IsTextOf : Data → List ℕ → Type 0
IsTextOf d text = has_float d ≡ false → text ≡ compact_text d
