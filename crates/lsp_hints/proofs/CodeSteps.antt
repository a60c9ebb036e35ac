-- The way to the comment of a line, byte by byte.
use Rattle.std.proofs.Common.{◌≡◌, ◌∙◌, ℕ, suc, ◌+◌, ◌<◌, ◌≤◌, true, false, List, ◌∷◌, length, drop, get_or, arith, refl, ap, add-one, drop-cons}
use Rattle.std.proofs.lemmas.List.{drop_all}
use Rattle.lsp_hints.specs.Operations.{begins_comment, code_from, covered_then}

cut : (line : List ℕ) (i : ℕ) → i < length line → drop i line ≡ get_or line i 0 ∷ drop (i + 1) line
cut line i within = rw (add-one, drop-cons line i 0) refl

pub reached : (covered : ℕ) (line : List ℕ) (i whole : ℕ) → i < length line → begins_comment covered (get_or line i 0) ≡ true
    → whole ≡ i + code_from covered (drop i line) → i ≡ whole
unfolding code_from
reached covered line i whole within here so_far =
    let at : code_from covered (drop i line) ≡ 0 = rw (cut line i within, here) refl in
    omega (arith, at, so_far)

pub passed : (covered : ℕ) (line : List ℕ) (i whole more : ℕ) → i < length line → begins_comment covered (get_or line i 0) ≡ false
    → more ≡ covered_then covered (drop i line)
    → whole ≡ i + code_from covered (drop i line) → whole ≡ i + 1 + code_from more (drop (i + 1) line)
unfolding code_from
passed covered line i whole more within not_here is so_far =
    let opened = is ∙ ap (λ (bytes : List ℕ). covered_then covered bytes) (cut line i within) in
    let at : code_from covered (drop i line) ≡ suc (code_from (covered_then covered (get_or line i 0 ∷ drop (i + 1) line)) (drop (i + 1) line)) =
    rw (cut line i within, not_here) refl in
    rw opened (omega (arith, at, so_far))

pub at_end : (covered : ℕ) (line : List ℕ) (i whole : ℕ) → length line ≤ i → i ≤ length line → whole ≡ i + code_from covered (drop i line) → length line ≡ whole
unfolding code_from
at_end covered line i whole past within so_far =
    let at : code_from covered (drop i line) ≡ 0 = rw (drop_all i line past) refl in
    omega (arith, at, so_far)
