-- Bytes in columns, without the spaces behind them.
use Rattle.std.proofs.Common.{◌≡◌, ◌≤◌, ◌*◌, ◌-◌, ℕ, List, [], ◌∷◌, length, take, refl, arith}
use Rattle.model.specs.Listing.{with_padding, with_spaces}
use Rattle.model.specs.Text.{spaced_bytes}

bytes_alone : (bytes : List ℕ) → length bytes ≤ 3 → take (3 * length bytes - 1) (with_padding (with_spaces (take 3 bytes))) ≡ with_spaces bytes
unfolding spaced_bytes
bytes_alone [] few = refl
bytes_alone (a ∷ []) few = refl
bytes_alone (a ∷ b ∷ []) few = refl
bytes_alone (a ∷ b ∷ c ∷ []) few = refl
bytes_alone (a ∷ b ∷ c ∷ d ∷ bytes) few = absurd (omega (arith, few))

pub without_padding : (bytes columns : List ℕ) (width : ℕ) → length bytes ≤ 3 → columns ≡ with_padding (with_spaces (take 3 bytes))
    → width ≡ 3 * length bytes - 1 → take width columns ≡ with_spaces bytes
without_padding bytes columns width few is wide = rw (is, wide) (bytes_alone bytes few)
