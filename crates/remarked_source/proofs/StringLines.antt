-- Lines with the numbers that end a string, one after another.
use Rattle.std.proofs.Common.{◌≡◌, ◌∙◌, ℕ, zero, suc, ◌+◌, ◌<◌, ◌≤◌, List, [], ◌∷◌, ◌++◌, length, drop, Option, Some, None, Bool, true, false, append_assoc, append-nil, add-one, add-zero, arith, ap, refl, drop_of_length-le}
use Rattle.std.specs.Prelude.{slice_get}
use Rattle.assembler.specs.Lines.{LineView}
use Rattle.source_forms.specs.Rows.{is_kind, mark_at}
use Rattle.source_forms.specs.declared.mark.Mark.{Mark}
use Rattle.source_forms.specs.declared.mark.Mark.TheVariants.{Text}
use Rattle.remarked_source.proofs.Lines.{cut}
use Rattle.remarked_source.specs.Strings.{joined_from, joined_line, last_end, text_count}

pub line_more : (marks : List Mark) (before : Option LineView) (i : ℕ) (ls : List LineView) (l : LineView) (out new whole : List ℕ)
    → slice_get ls i ≡ Some l → new ≡ out ++ joined_line marks before l
    → out ++ joined_from marks before (drop i ls) ≡ whole → new ++ joined_from marks (Some l) (drop (i + 1) ls) ≡ whole
unfolding joined_from
line_more marks before i ls l out new whole is put w =
    rw (put, add-one) (append_assoc out (joined_line marks before l) (joined_from marks (Some l) (drop (suc i) ls)) ∙ rw (cut ls i l is) at w)

pub lines_end : (marks : List Mark) (before : Option LineView) (i : ℕ) (ls : List LineView) (out new whole : List ℕ) → length ls ≤ i
    → new ≡ out ++ last_end before
    → out ++ joined_from marks before (drop i ls) ≡ whole → new ≡ whole
unfolding joined_from
lines_end marks before i ls out new whole h put w = put ∙ rw (drop_of_length-le ls h) at w

-- ---- how many addresses are marked as text

pub counted : (marks : List Mark) (most address count : ℕ) → count ≤ most → ((k : ℕ) → k < count → is_kind Text (mark_at marks (address + k)) ≡ true)
    → (count < most → is_kind Text (mark_at marks (address + count)) ≡ false) → text_count marks most address ≡ count
unfolding text_count
counted marks zero address count few each last = omega (arith, few)
counted marks (suc n) address zero few each last =
    let here : is_kind Text (mark_at marks address) ≡ false = rw add-zero at (last (omega arith)) in rw here refl
counted marks (suc n) address (suc k) few each last =
    let here : is_kind Text (mark_at marks address) ≡ true = rw add-zero at (each 0 (omega arith)) in
    let next : (i : ℕ) → address + 1 + i ≡ address + suc i = λ i. omega arith in
    rw here (ap suc (counted marks n (address + 1) k (omega (arith, few))
    (λ i h. ap (λ (a : ℕ). is_kind Text (mark_at marks a)) (next i) ∙ each (suc i) (omega (arith, h)))
    (λ h. ap (λ (a : ℕ). is_kind Text (mark_at marks a)) (next k) ∙ last (omega (arith, h)))))
