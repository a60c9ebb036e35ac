-- Bytes in hex one after another.
use Rattle.std.proofs.Common.{◌≡◌, ◌∙◌, ℕ, ◌+◌, ◌<◌, ◌≤◌, List, [], ◌∷◌, ◌++◌, length, drop, get_or, refl, sym, ap, append_assoc, append-nil, add-one, drop-cons}
use Rattle.std.proofs.lemmas.List.{drop_all}
use Rattle.std.specs.List.{flat_map}
use Rattle.dap_views.specs.Rows.{further, joined}
use Rattle.model.specs.Text.{hex_byte}

-- with the same words in front of the first as between them
alike : (between bytes : List ℕ) → joined between between bytes ≡ flat_map (further between) bytes
alike between [] = refl
alike between (byte ∷ bytes) = refl

-- one byte more, with words in front of it
pub joined_more : (words between all : List ℕ) (i e : ℕ) (old mid new whole : List ℕ) → i < length all → mid ≡ old ++ words
    → new ≡ mid ++ hex_byte (get_or all i e)
    → old ++ joined words between (drop i all) ≡ whole → new ++ joined between between (drop (i + 1) all) ≡ whole
joined_more words between all i e old mid new whole within put_words put_byte so_far =
    let rest = drop (i + 1) all in
    let byte = hex_byte (get_or all i e) in
    let behind = flat_map (further between) rest in
    let cut : drop i all ≡ get_or all i e ∷ rest = rw (add-one, drop-cons all i e) refl in
    let put : new ≡ (old ++ words) ++ byte = put_byte ∙ ap (λ (bs : List ℕ). bs ++ byte) put_words in
    let same : ((old ++ words) ++ byte) ++ behind ≡ old ++ ((words ++ byte) ++ behind) = simp append_assoc in
    ap (λ (bs : List ℕ). bs ++ joined between between rest) put ∙ ap (λ (bs : List ℕ). ((old ++ words) ++ byte) ++ bs) (alike between rest) ∙ same
    ∙ sym (ap (λ (bs : List ℕ). old ++ joined words between bs) cut) ∙ so_far

pub joined_done : (words between all : List ℕ) (i : ℕ) (text whole : List ℕ) → length all ≤ i → text ++ joined words between (drop i all) ≡ whole → text ≡ whole
joined_done words between all i text whole past so_far = sym (append-nil text)
    ∙ sym (ap (λ (l : List ℕ). text ++ joined words between l) (drop_all i all past)) ∙ so_far
