-- Bytes that are not 0, one after another.
use Rattle.std.proofs.Common.{◌≡◌, ◌≢◌, ◌∙◌, ℕ, ◌+◌, ◌<◌, ◌≤◌, cond, List, [], ◌∷◌, ◌++◌, length, drop, get_or, sym, ap, append_assoc, append-nil}
use Rattle.std.proofs.lemmas.Bool.{eq-eqb, ne_eqb}
use Rattle.std.proofs.lemmas.List.{drop_all, drop_more}
use Rattle.page_data.specs.Format.{without_zeros}

pub left_out : (done bytes : List ℕ) (i : ℕ) → i < length bytes → get_or bytes i 0 ≡ 0
    → done ++ without_zeros (drop (i + 1) bytes) ≡ done ++ without_zeros (drop i bytes)
unfolding without_zeros
left_out done bytes i h e =
    let b = get_or bytes i 0 in
    let rest = without_zeros (drop (i + 1) bytes) in
    sym (ap (λ (l : List ℕ). done ++ l) (ap without_zeros (drop_more bytes i 0 h) ∙ ap (λ t. cond t rest (b ∷ rest)) (eq-eqb b 0 e)))

pub kept_on : (done bytes : List ℕ) (i : ℕ) → i < length bytes → get_or bytes i 0 ≢ 0
    → (done ++ get_or bytes i 0 ∷ []) ++ without_zeros (drop (i + 1) bytes) ≡ done ++ without_zeros (drop i bytes)
unfolding without_zeros
kept_on done bytes i h e =
    let b = get_or bytes i 0 in
    let rest = without_zeros (drop (i + 1) bytes) in
    append_assoc done (b ∷ []) rest
    ∙ sym (ap (λ (l : List ℕ). done ++ l) (ap without_zeros (drop_more bytes i 0 h) ∙ ap (λ t. cond t rest (b ∷ rest)) (ne_eqb b 0 e)))

pub none_left : (done bytes : List ℕ) (i : ℕ) → length bytes ≤ i → done ++ without_zeros (drop i bytes) ≡ done
unfolding without_zeros
none_left done bytes i h = ap (λ (l : List ℕ). done ++ without_zeros l) (drop_all i bytes h) ∙ append-nil done
