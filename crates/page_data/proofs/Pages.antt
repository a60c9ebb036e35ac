-- Pages of memory, one after another.
use Rattle.std.proofs.Common.{◌≡◌, ◌∙◌, ℕ, zero, suc, ◌+◌, ◌-◌, ◌*◌, ◌<◌, ◌≤◌, Bool, true, false, List, [], ◌∷◌, ◌++◌, length, take, drop, get_or, refl, sym, ap, arith, append_assoc, append-nil}
use Rattle.std.specs.Prelude.{◌==◌, ◌&&◌}
use Rattle.std.proofs.lemmas.Bool.{eq-eqb, ne_eqb}
use Rattle.std.proofs.lemmas.List.{drop-drop, ext_get_or, get_or-drop, get_or-take, length-drop, length-take}
use Rattle.page_data.specs.Start.{is_blank, page, pages}

pub page_all : (cells memory : List ℕ) (number : ℕ) → length cells ≡ 256 → length memory ≡ 65536 → number < 256
    → ((k : ℕ) → k < 256 → get_or cells k 0 ≡ get_or memory (256 * number + k) 0)
    → cells ≡ take 256 (drop (256 * number) memory)
page_all cells memory number size all below same =
    let rest = drop (256 * number) memory in
    ext_get_or 0 cells (take 256 rest) (omega (arith, size, all, below, length-take 256 rest, length-drop (256 * number) memory))
    (λ i within. same i (omega (arith, within, size)) ∙ sym (get_or-take 256 rest i 0 (omega (arith, within, size)) ∙ get_or-drop (256 * number) memory i 0))

pages_by : (n i : ℕ) (memory : List ℕ) → n ≡ 256 * i → (k j : ℕ) → k ≡ suc j
    → pages k (drop n memory) ≡ page (take 256 (drop n memory)) ++ pages j (drop 256 (drop n memory))
unfolding pages
pages_by n i memory e k j is = ap (λ m. pages m (drop n memory)) is

pub pages_more : (i : ℕ) (memory : List ℕ) → i < 256
    → pages (256 - i) (drop (256 * i) memory) ≡ page (take 256 (drop (256 * i) memory)) ++ pages (256 - (i + 1)) (drop (256 * (i + 1)) memory)
pages_more i memory below =
    let here = page (take 256 (drop (256 * i) memory)) in
    let next : 256 * i + 256 ≡ 256 * (i + 1) = omega arith in
    pages_by (256 * i) i memory refl (256 - i) (256 - (i + 1)) (omega (arith, below))
    ∙ ap (λ (l : List ℕ). here ++ pages (256 - (i + 1)) l) (drop-drop 256 (256 * i) memory ∙ ap (λ (n : ℕ). drop n memory) next)

pub page_on : (done after : List ℕ) (i : ℕ) (memory : List ℕ) → i < 256 → after ≡ done ++ page (take 256 (drop (256 * i) memory))
    → after ++ pages (256 - (i + 1)) (drop (256 * (i + 1)) memory) ≡ done ++ pages (256 - i) (drop (256 * i) memory)
page_on done after i memory below e =
    let here = page (take 256 (drop (256 * i) memory)) in
    let rest = pages (256 - (i + 1)) (drop (256 * (i + 1)) memory) in
    ap (λ (l : List ℕ). l ++ rest) e ∙ append_assoc done here rest ∙ ap (λ (l : List ℕ). done ++ l) (sym (pages_more i memory below))

no_pages : (k : ℕ) (memory : List ℕ) → k ≡ 0 → pages k memory ≡ []
unfolding pages
no_pages k memory e = ap (λ m. pages m memory) e

pub pages_done : (done : List ℕ) (i : ℕ) (memory : List ℕ) → 256 ≤ i → done ++ pages (256 - i) (drop (256 * i) memory) ≡ done
pages_done done i memory past =
    ap (λ (l : List ℕ). done ++ l) (no_pages (256 - i) (drop (256 * i) memory) (omega (arith, past))) ∙ append-nil done

-- ---- whether a page is all 0

pub blank_all : (cells : List ℕ) → ((k : ℕ) → k < length cells → get_or cells k 0 ≡ 0) → is_blank cells ≡ true
unfolding is_blank
blank_all [] all = refl
blank_all (b ∷ cells) all =
    ap (λ t. t && is_blank cells) (eq-eqb b 0 (all 0 (omega arith))) ∙ blank_all cells (λ k h. all (suc k) (omega (arith, h)))

rest_false : (t : Bool) → (t && false) ≡ false
rest_false true = refl
rest_false false = refl

pub blank_not : (cells : List ℕ) (k : ℕ) → k < length cells → (get_or cells k 0 ≡ 0 → ⊥) → is_blank cells ≡ false
unfolding is_blank
blank_not [] k h other = absurd (omega (arith, h))
blank_not (b ∷ cells) zero h other = ap (λ t. t && is_blank cells) (ne_eqb b 0 other)
blank_not (b ∷ cells) (suc k) h other = ap (λ t. (b == 0) && t) (blank_not cells k (omega (arith, h)) other) ∙ rest_false (b == 0)
