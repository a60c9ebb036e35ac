-- The lines above a line, one after another.
use Rattle.std.proofs.Common.{◌≡◌, ◌∙◌, ℕ, ◌+◌, ◌<◌, ◌≤◌, zero, suc, true, false, List, add-one, arith, refl, subst, sym, ap}
use Rattle.lsp_answers.specs.Above.{above, is_comment}
use Rattle.source_notes.specs.Lines.{line_of, line_or_none}

one_above : (lines : List (List ℕ)) (less : ℕ) → is_comment (line_or_none (line_of lines (suc less))) ≡ true → above lines (suc less) ≡ above lines less
unfolding above
one_above lines less is = rw is refl

pub above_more : (lines : List (List ℕ)) (first less whole : ℕ) → first ≡ less + 1 → is_comment (line_or_none (line_of lines first)) ≡ true
    → above lines first ≡ whole → above lines less ≡ whole
above_more lines first less whole is comment so_far =
    let same : first ≡ suc less = rw (is, add-one) refl in
    sym (one_above lines less (subst (λ (n : ℕ). is_comment (line_or_none (line_of lines n)) ≡ true) same comment)) ∙ sym (ap (above lines) same) ∙ so_far

pub above_here : (lines : List (List ℕ)) (first whole : ℕ) → 0 < first → is_comment (line_or_none (line_of lines first)) ≡ false
    → above lines first ≡ whole → first ≡ whole
unfolding above
above_here lines zero whole some is so_far = absurd (omega (arith, some))
above_here lines (suc n) whole some is so_far =
    let here : above lines (suc n) ≡ suc n = rw is refl in
    sym here ∙ so_far

pub above_none : (lines : List (List ℕ)) (first whole : ℕ) → first ≤ 0 → above lines first ≡ whole → first ≡ whole
unfolding above
above_none lines zero whole none so_far = so_far
above_none lines (suc n) whole none so_far = absurd (omega (arith, none))
