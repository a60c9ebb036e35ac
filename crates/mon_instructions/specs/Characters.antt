-- A byte as a character. Source: mos65.
use Rattle.std.specs.Prelude.{ℕ, if◌then◌else◌}
use Rattle.std.specs.Str.{byte}
use Rattle.model.specs.Token.{is_printable}

-- A byte as a character, or a point in its place.
abbrev pub shown_character : ℕ → ℕ
shown_character b = if is_printable b then b else byte "."
