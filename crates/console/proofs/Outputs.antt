-- Output, byte by byte.
use Rattle.std.proofs.Common.{◌≡◌, ℕ, ◌+◌, ◌<◌, ◌≤◌, List, [], ◌∷◌, ◌++◌, refl, sym, ap, ◌∙◌, append_assoc, append-nil, drop, get_or, drop-cons, add-one, length}
use Rattle.std.proofs.lemmas.List.{drop_all}

-- one byte more of an output is written
pub out_more : (out text : List ℕ) (from i : ℕ) → i < length out → drop from out ≡ text ++ drop i out
    → drop from out ≡ (text ++ get_or out i 0 ∷ []) ++ drop (i + 1) out
out_more out text from i inside e =
    e ∙ ap (λ l. text ++ l) (rw (drop-cons out i 0, ← add-one) refl) ∙ sym (append_assoc text (get_or out i 0 ∷ []) (drop (i + 1) out))

pub out_all : (out text : List ℕ) (from i : ℕ) → length out ≤ i → drop from out ≡ text ++ drop i out
    → drop from out ≡ text
out_all out text from i past e = e ∙ ap (λ l. text ++ l) (drop_all i out past) ∙ append-nil text
