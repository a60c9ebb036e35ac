-- What stands behind a key in a text.
use Rattle.std.proofs.Common.{◌≡◌, ◌==◌, ℕ, Bool, true, false, List, [], ◌∷◌, length, drop, refl, Some, None, if◌then◌else◌, ap, arith}
use Rattle.names_files.specs.Labels.{begins, behind_key}

-- nothing stands in a text without bytes
pub nowhere : (key text : List ℕ) → length text ≡ 0 → behind_key key text ≡ None
unfolding behind_key
nowhere key [] empty = refl
nowhere key (b ∷ bytes) empty = absurd (omega arith)

-- the key stands at the front
pub here : (key text : List ℕ) → (length text == 0) ≡ false → begins text key ≡ true → behind_key key text ≡ Some (drop (length key) text)
unfolding behind_key
here key [] some at = absurd (cc)
here key (b ∷ bytes) some at = ap (λ (t : Bool). if t then Some (drop (length key) (b ∷ bytes)) else behind_key key bytes) at

-- the key does not stand at the front
pub further : (key text : List ℕ) → (length text == 0) ≡ false → begins text key ≡ false → behind_key key text ≡ behind_key key (drop 1 text)
unfolding behind_key
further key [] some at = absurd (cc)
further key (b ∷ bytes) some at = ap (λ (t : Bool). if t then Some (drop (length key) (b ∷ bytes)) else behind_key key bytes) at
