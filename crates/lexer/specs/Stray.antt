-- Where a line is no longer made of tokens. Source: mos65.
use Rattle.std.specs.Prelude.{ℕ, zero, suc, ◌+◌, ◌-◌, ◌==◌, if◌then◌else◌, List, [], ◌∷◌, length, Option, None, Some}
use Rattle.model.specs.Token.{Found, is_blank, token_at}

-- This place where no token begins, and otherwise what follows of the bytes behind the token.
abbrev pub stray_unless : ℕ → (ℕ → Option ℕ) → Found → Option ℕ
stray_unless place behind None = Some place
stray_unless place behind (Some found) = behind (length found.1 - 1)

-- The first place where a token should begin and none does, from an index on; so many of the bytes
-- still belong to the token before. Blanks may be between tokens, and `;` begins a comment.
unfoldable pub stray_from : ℕ → ℕ → List ℕ → Option ℕ
stray_from place covered [] = None
stray_from place (suc covered) (b ∷ bytes) = stray_from (place + 1) covered bytes
stray_from place zero (b ∷ bytes) =
    if is_blank b then stray_from (place + 1) 0 bytes
    else if b == 59 then None
    else stray_unless place (λ rest. stray_from (place + 1) rest bytes) (token_at (b ∷ bytes))

-- The first place of a line where a token should begin and none does.
abbrev pub first_stray : List ℕ → Option ℕ
first_stray line = stray_from 0 0 line
