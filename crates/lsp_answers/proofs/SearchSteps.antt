-- The letters of a query in a name, one after another.
use Rattle.std.proofs.Common.{◌≡◌, ◌∙◌, ℕ, ◌+◌, ◌<◌, ◌≤◌, ◌==◌, Bool, List, ◌∷◌, length, drop, get_or, refl, sym, ap, add-one, drop-cons}
use Rattle.std.proofs.lemmas.List.{drop_all}
use Rattle.lsp_answers.specs.Search.{left_of, without_letter}

pub letter_more : (left name : List ℕ) (i d : ℕ) (next whole : List ℕ) → i < length name → next ≡ without_letter left (get_or name i d)
    → left_of left (drop i name) ≡ whole → left_of next (drop (i + 1) name) ≡ whole
unfolding left_of
letter_more left name i d next whole within is so_far =
    let cut : drop i name ≡ get_or name i d ∷ drop (i + 1) name = rw (add-one, drop-cons name i d within) refl in
    ap (λ (q : List ℕ). left_of q (drop (i + 1) name)) is ∙ sym (ap (left_of left) cut) ∙ so_far

pub letters_end : (left name : List ℕ) (i : ℕ) (empty : Bool) (whole : List ℕ) → length name ≤ i → empty ≡ (length left == 0)
    → left_of left (drop i name) ≡ whole → empty ≡ (length whole == 0)
unfolding left_of
letters_end left name i empty whole past is so_far =
    let all : left_of left (drop i name) ≡ left = ap (left_of left) (drop_all i name past) in
    is ∙ ap (λ (q : List ℕ). length q == 0) (sym all ∙ so_far)
