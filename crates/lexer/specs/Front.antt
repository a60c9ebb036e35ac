-- What a text begins with. Source: mos65.
use Rattle.std.specs.Prelude.{ℕ, ◌==◌, Bool, List, length, take, drop, position}
use Rattle.std.specs.List.{prefix_len}
use Rattle.std.specs.Option.{unwrap_or}
use Rattle.model.specs.Token.{begins, is_blank}

-- Whether a text begins with `sign`.
abbrev pub is_next : ℕ → List ℕ → Bool
is_next sign text = begins (λ b. b == sign) text

-- A text without the blanks at its front.
abbrev pub without_blanks : List ℕ → List ℕ
without_blanks text = drop (prefix_len is_blank text) text

-- How many bytes come before the first blank.
abbrev pub field_length : List ℕ → ℕ
field_length text = unwrap_or (position is_blank text) (length text)

-- The bytes before the first blank.
abbrev pub first_field : List ℕ → List ℕ
first_field text = take (field_length text) text
