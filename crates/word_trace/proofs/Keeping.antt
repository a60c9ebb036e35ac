-- The addresses that are kept, one after another.
use Rattle.std.proofs.Common.{◌≡◌, ◌∙◌, ℕ, ◌+◌, ◌<◌, true, false, List, [], ◌∷◌, length, drop, get_or, refl, ap, add-one, drop-cons}
use Rattle.std.specs.Prelude.{Option, Result, Ok, Err, OnOk, OnErr, if◌then◌else◌}
use Rattle.model.specs.State.{Map}
use Rattle.word_trace.specs.Notes.{is_kept, kept}

pub left_out : (map : Map) (rom : Option (ℕ × ℕ)) (port i : ℕ) (stores : List ℕ) → i < length stores
    → is_kept map rom port (get_or stores i 0) ≡ false → kept map rom port (drop i stores) ≡ kept map rom port (drop (i + 1) stores)
unfolding kept
left_out map rom port i stores h e =
    let d : drop i stores ≡ get_or stores i 0 ∷ drop (i + 1) stores = rw (add-one, drop-cons stores i 0) refl in
    ap (kept map rom port) d ∙ ap (λ b. if b then get_or stores i 0 ∷ kept map rom port (drop (i + 1) stores) else kept map rom port (drop (i + 1) stores)) e

pub taken : (map : Map) (rom : Option (ℕ × ℕ)) (port i : ℕ) (stores : List ℕ) → i < length stores → is_kept map rom port (get_or stores i 0) ≡ true
    → kept map rom port (drop i stores) ≡ get_or stores i 0 ∷ kept map rom port (drop (i + 1) stores)
unfolding kept
taken map rom port i stores h e =
    let d : drop i stores ≡ get_or stores i 0 ∷ drop (i + 1) stores = rw (add-one, drop-cons stores i 0) refl in
    ap (kept map rom port) d ∙ ap (λ b. if b then get_or stores i 0 ∷ kept map rom port (drop (i + 1) stores) else kept map rom port (drop (i + 1) stores)) e

pub none_left : (map : Map) (rom : Option (ℕ × ℕ)) (port : ℕ) (stores : List ℕ) → stores ≡ [] → kept map rom port stores ≡ []
unfolding kept
none_left map rom port stores e = ap (kept map rom port) e

pub pushed : {X E : Type 0} (r : Result X E) (Q P : Type 0) → OnOk r Q → OnErr r P → (P → ⊥) → Q
pushed (Ok x) Q P o e n = o
pushed (Err x) Q P o e n = absurd (n e)
