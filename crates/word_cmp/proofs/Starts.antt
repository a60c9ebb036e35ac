-- Where instructions begin, one address more at a time.
use Rattle.std.proofs.Common.{◌≡◌, ℕ, ◌+◌, ◌-◌, ◌<◌, ◌∙◌, List, [], ◌∷◌, ◌++◌, Option, refl, sym, ap, arith, add-one}
use Rattle.std.proofs.lemmas.Bool.{ne_eqb}
use Rattle.model.specs.declared.instruction.Profile.{Profile}
use Rattle.tape_words.specs.Instructions.{len_by, row_at}
use Rattle.word_cmp.specs.DifferenceRows.{Reading, one_address_more, read_below, starts_below}

pub read_none : (profile : Profile) (image : List (Option ℕ)) → starts_below profile image 0 ≡ []
unfolding starts_below
read_none profile image = refl

pub start_none : (profile : Profile) (image : List (Option ℕ)) → (read_below profile image 0).start ≡ 0
unfolding read_below
start_none profile image = refl

pub left_none : (profile : Profile) (image : List (Option ℕ)) → (read_below profile image 0).left ≡ 0
unfolding read_below
left_none profile image = refl

goes_on_by : (profile : Profile) (image : List (Option ℕ)) (n left : ℕ) (r : Reading) → r.left ≡ left → 0 < left
    → one_address_more profile image n r ≡ record { start = r.start; left = r.left - 1 }
goes_on_by profile image n left r e h =
    let some : r.left ≡ 0 → ⊥ = λ none. absurd (omega (arith, none)) in
    rw (ne_eqb r.left 0 some) refl

-- the next instruction begins
pub begun : (profile : Profile) (image : List (Option ℕ)) (n left start next : ℕ) → left ≡ (read_below profile image n).left → left ≡ 0
    → start ≡ n → next ≡ len_by (row_at profile image n)
    → read_below profile image (n + 1) ≡ record { start = start; left = next - 1 }
unfolding read_below
begun profile image n left start next e none s l =
    let zero_left : (read_below profile image n).left ≡ 0 = sym e ∙ none in
    rw (add-one, zero_left) (rw (s, l) refl)

-- the instruction goes on
pub continued : (profile : Profile) (image : List (Option ℕ)) (n before left start next : ℕ) → before ≡ (read_below profile image n).start
    → left ≡ (read_below profile image n).left → 0 < left → start ≡ before → next ≡ left
    → read_below profile image (n + 1) ≡ record { start = start; left = next - 1 }
unfolding read_below
continued profile image n before left start next b e some s l =
    rw add-one (goes_on_by profile image n left (read_below profile image n) (sym e) some ∙ rw (s, l, b, e) refl)

pub one_start_more : (profile : Profile) (image : List (Option ℕ)) (n start : ℕ) (starts more : List ℕ)
    → starts ≡ starts_below profile image n → start ≡ (read_below profile image (n + 1)).start → more ≡ starts ++ start ∷ []
    → more ≡ starts_below profile image (n + 1)
unfolding starts_below
one_start_more profile image n start starts more e s pushed =
    rw add-one (pushed ∙ (ap (λ (t : List ℕ). t ++ start ∷ []) e ∙ ap (λ (k : ℕ). starts_below profile image n ++ k ∷ []) (s ∙ rw add-one refl)))
