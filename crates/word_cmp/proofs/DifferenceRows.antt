-- Rows, one behind the other.
use Rattle.std.proofs.Common.{◌≡◌, ◌∙◌, ℕ, ◌+◌, ◌<◌, ◌≤◌, ◌⊎◌, true, false, List, [], ◌∷◌, ◌++◌, Option, Some, length, get_or, take, drop, length-drop, inl, inr, refl, sym, ap, append_assoc, append-nil, arith}
use Rattle.std.specs.Prelude.{◌-◌, codes}
use Rattle.std.proofs.lemmas.Bool.{cases_Bool}
use Rattle.std.proofs.lemmas.List.{at_drop_more, at_drop_all, take_all}
use Rattle.tape_words.specs.Answers.{EndsLine}
use Rattle.word_cmp.specs.declared.wording.TheConstants.{ONLY}
use Rattle.word_cmp.specs.DifferenceRows.{SideView, first_row, goes_on, is_alone, is_within, range_end, range_text, row_text, rows_after, rows_of, told_of}

-- ---- texts, one behind the other

pub eight : (t0 t1 t2 t3 t4 t5 t6 t7 t8 a b c d e f g h : List ℕ) → t1 ≡ t0 ++ a → t2 ≡ t1 ++ b → t3 ≡ t2 ++ c → t4 ≡ t3 ++ d
    → t5 ≡ t4 ++ e → t6 ≡ t5 ++ f → t7 ≡ t6 ++ g → t8 ≡ t7 ++ h → t8 ≡ t0 ++ (a ++ b ++ c ++ d ++ e ++ f ++ g ++ h)
eight t0 t1 t2 t3 t4 t5 t6 t7 t8 a b c d e f g h e1 e2 e3 e4 e5 e6 e7 e8 =
    rw (e8, e7, e6, e5, e4, e3, e2, e1) (simp append_assoc)

pub ten : (t0 t1 t2 t3 t4 t5 t6 t7 t8 t9 t10 a b c d e f g h i j : List ℕ) → t1 ≡ t0 ++ a → t2 ≡ t1 ++ b → t3 ≡ t2 ++ c → t4 ≡ t3 ++ d
    → t5 ≡ t4 ++ e → t6 ≡ t5 ++ f → t7 ≡ t6 ++ g → t8 ≡ t7 ++ h → t9 ≡ t8 ++ i → t10 ≡ t9 ++ j
    → t10 ≡ t0 ++ (a ++ b ++ c ++ d ++ e ++ f ++ g ++ h ++ i ++ j)
ten t0 t1 t2 t3 t4 t5 t6 t7 t8 t9 t10 a b c d e f g h i j e1 e2 e3 e4 e5 e6 e7 e8 e9 e10 =
    rw (e10, e9, e8, e7, e6, e5, e4, e3, e2, e1) (simp append_assoc)

-- ---- the end of a range

pub range_stops : (side other : SideView) (last n : ℕ) (more : List ℕ) → n < length more
    → goes_on side other last (get_or more n 0) ≡ false → range_end side other last (drop n more) ≡ last
unfolding range_end
range_stops side other last n more h e =
    at_drop_more (range_end side other last) more n 0 h ∙ rw e refl

pub range_more : (side other : SideView) (last n : ℕ) (more : List ℕ) → n < length more
    → goes_on side other last (get_or more n 0) ≡ true
    → range_end side other last (drop n more) ≡ range_end side other (get_or more n 0) (drop (n + 1) more)
unfolding range_end
range_more side other last n more h e =
    at_drop_more (range_end side other last) more n 0 h ∙ rw e refl

pub range_done : (side other : SideView) (last n : ℕ) (more : List ℕ) → length more ≤ n
    → range_end side other last (drop n more) ≡ last
unfolding range_end
range_done side other last n more h = at_drop_all (range_end side other last) more n h

-- ---- all rows

pub rest_of : (all : List ℕ) (n : ℕ) → take (length all - n) (drop n all) ≡ drop n all
rest_of all n = take_all (length all - n) (drop n all) (omega (arith, length-drop n all))

pub one_row_more : (one other : SideView) (before : Option ℕ) (all : List ℕ) (n : ℕ) (text longer whole : List ℕ) → n < length all
    → longer ≡ text ++ told_of one other before (get_or all n 0) (drop (n + 1) all)
    → text ++ rows_after one other before (drop n all) ≡ whole
    → longer ++ rows_after one other (Some (get_or all n 0)) (drop (n + 1) all) ≡ whole
unfolding rows_after
one_row_more one other before all n text longer whole h grown so_far =
    let told = told_of one other before (get_or all n 0) (drop (n + 1) all) in
    let rest = rows_after one other (Some (get_or all n 0)) (drop (n + 1) all) in
    let here : rows_after one other before (drop n all) ≡ told ++ rest = at_drop_more (rows_after one other before) all n 0 h in
    ap (λ (t : List ℕ). t ++ rest) grown ∙ (append_assoc text told rest ∙ (ap (λ (t : List ℕ). text ++ t) (sym here) ∙ so_far))

pub rows_done : (one other : SideView) (before : Option ℕ) (all : List ℕ) (n : ℕ) (text whole : List ℕ) → length all ≤ n
    → text ++ rows_after one other before (drop n all) ≡ whole → text ≡ whole
unfolding rows_after
rows_done one other before all n text whole h so_far =
    sym (append-nil text) ∙ (ap (λ (t : List ℕ). text ++ t) (sym (at_drop_all (rows_after one other before) all n h)) ∙ so_far)

-- ---- each row ends with a line's end

row_ends : (one other : SideView) (address : ℕ) → EndsLine (row_text one other address)
unfolding row_text
row_ends one other address = (_, refl)

ends_behind : (front text : List ℕ) → EndsLine text → EndsLine (front ++ text)
ends_behind front text ends = (front ++ ends.0, ap (λ (t : List ℕ). front ++ t) ends.1 ∙ sym (append_assoc front ends.0 (10 ∷ [])))

range_ends : (side : SideView) (first last : ℕ) → EndsLine (range_text side first last)
unfolding range_text
range_ends side first last = ends_behind _ ONLY.now (codes " only", refl)

first_ends : (one other : SideView) (address : ℕ) (more : List ℕ) → EndsLine (first_row one other address more)
first_ends one other address more = elim (cases_Bool (is_alone one other address)) [
  | inl t ↦ rw t (range_ends one address (range_end one other address more))
  | inr f ↦ elim (cases_Bool (is_alone other one address)) [
    | inl t ↦ rw (f, t) (range_ends other address (range_end other one address more))
    | inr g ↦ rw (f, g) (row_ends one other address)
  ]
]

abbrev NothingOrLines : List ℕ → Type 0
NothingOrLines text = (text ≡ []) ⊎ EndsLine text

one_then_more : (row rest : List ℕ) → EndsLine row → NothingOrLines rest → EndsLine (row ++ rest)
one_then_more row rest ends (inl none) = rw (none, append-nil) ends
one_then_more row rest ends (inr lines) = ends_behind row rest lines

rows_end : (one other : SideView) (before : Option ℕ) (all : List ℕ) → NothingOrLines (rows_after one other before all)
unfolding rows_after
rows_end one other before [] = inl refl
rows_end one other before (address ∷ more) = elim (cases_Bool (is_within one other before address)) [
  | inl t ↦ rw t (rows_end one other (Some address) more)
  | inr f ↦ rw f (inr (one_then_more (first_row one other address more) (rows_after one other (Some address) more) (first_ends one other address more)
      (rows_end one other (Some address) more)))
]

-- The rows of one address or more end with a line's end.
pub all_end : (one other : SideView) (all : List ℕ) → 0 < length all → EndsLine (rows_of one other all)
unfolding rows_after
all_end one other [] h = absurd (omega arith)
all_end one other (address ∷ more) h =
    one_then_more (first_row one other address more) (rows_after one other (Some address) more) (first_ends one other address more)
    (rows_end one other (Some address) more)
