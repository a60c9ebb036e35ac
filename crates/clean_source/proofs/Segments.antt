-- The way along the lines of a text.
use Rattle.std.proofs.Common.{◌≡◌, ℕ, suc, ◌+◌, ◌<◌, ◌≤◌, Bool, true, false, cond, ltb, Some, None, List, [], ◌∷◌, ◌++◌, get_or, refl, sym, ap, ◌∙◌, append_assoc, append-nil, take, drop, length, arith, inl, inr}
use Rattle.std.specs.Prelude.{position}
use Rattle.std.specs.List.{position_or_len, before_first, after_first}
use Rattle.std.proofs.lemmas.Bool.{cases_Bool}
use borrow.Author.Tests.{ltb-true, ltb-false}
use Rattle.clean_source.specs.Cleaned.{cleaned_from, cleaned_line, end_byte, ends_line}

-- one element more is taken, or dropped, of a list that has one in front
take-one_more : (n b : ℕ) (bs : List ℕ) → take (1 + n) (b ∷ bs) ≡ b ∷ take n bs
take-one_more n b bs = let e : 1 + n ≡ suc n = omega arith in rw e refl

drop-one_more : (n b : ℕ) (bs : List ℕ) → drop (1 + n + 1) (b ∷ bs) ≡ drop (n + 1) bs
drop-one_more n b bs = let e : 1 + n + 1 ≡ suc (n + 1) = omega arith in rw e refl

get-one_more : (n b : ℕ) (bs : List ℕ) → get_or (b ∷ bs) (1 + n) 0 ≡ get_or bs n 0
get-one_more n b bs = let e : 1 + n ≡ suc n = omega arith in rw e refl

-- where the first line of a text ends, or the text's length
abbrev here : List ℕ → ℕ
here text = position_or_len ends_line text

-- where an end follows, the bytes before it are the line that has begun
from-cut : (begun text : List ℕ) → here text < length text
    → cleaned_from begun text ≡ cleaned_line (begun ++ before_first ends_line text)
    ++ end_byte (get_or text (here text) 0) (after_first ends_line text) ∷ cleaned_from [] (after_first ends_line text)
unfolding cleaned_from
from-cut begun [] follows = absurd (omega arith)
from-cut begun (b ∷ bs) follows = elim (cases_Bool (ends_line b)) [
  | inl ends ↦ rw (ends, append-nil begun) refl
  | inr other ↦
      let behind = rw other at follows in
      let later = from-cut (begun ++ b ∷ []) bs (omega (arith, behind)) in
      rw (other, take-one_more, drop-one_more, get-one_more) (rw append_assoc at later)
]

-- where none follows, all of them belong to it
from-uncut : (begun text : List ℕ) → length text ≤ here text → cleaned_from begun text ≡ cleaned_line (begun ++ text)
unfolding cleaned_from
from-uncut begun [] none = rw append-nil refl
from-uncut begun (b ∷ bs) none = elim (cases_Bool (ends_line b)) [
  | inl ends ↦ let behind = rw ends at none in absurd (omega (arith, behind))
  | inr other ↦
      let behind = rw other at none in
      let later = from-uncut (begun ++ b ∷ []) bs (omega (arith, behind)) in
      rw other (rw append_assoc at later)
]

pub cut : (text : List ℕ) (at : ℕ) → position ends_line text ≡ Some at
    → cleaned_from [] text ≡ cleaned_line (take at text) ++ end_byte (get_or text at 0) (drop (at + 1) text) ∷ cleaned_from [] (drop (at + 1) text)
cut text at met = by (ltb (here text) (length text)) refl met
  where
    by : (t : Bool) → ltb (here text) (length text) ≡ t → cond t (Some (here text)) None ≡ Some at
        → cleaned_from [] text ≡ cleaned_line (take at text) ++ end_byte (get_or text at 0) (drop (at + 1) text) ∷ cleaned_from [] (drop (at + 1) text)
    by true test found =
        let same : here text ≡ at = cc in
        rw (← same) (from-cut [] text (ltb-true (here text) (length text) test))
    by false test found = cc

pub uncut : (text : List ℕ) → position ends_line text ≡ None → cleaned_from [] text ≡ cleaned_line text
uncut text met = by (ltb (here text) (length text)) refl met
  where
    by : (t : Bool) → ltb (here text) (length text) ≡ t → cond t (Some (here text)) None ≡ None → cleaned_from [] text ≡ cleaned_line text
    by true test found = cc
    by false test found = from-uncut [] text (ltb-false (here text) (length text) test)

-- one line more
pub line_more : (made line behind rest all now : List ℕ) (end : ℕ) → now ≡ (made ++ line) ++ end ∷ [] → made ++ rest ≡ all
    → rest ≡ line ++ end ∷ behind → now ++ behind ≡ all
line_more made line behind rest all now end is led split =
    ap (λ n. n ++ behind) is ∙ append_assoc (made ++ line) (end ∷ []) behind ∙ append_assoc made line (end ∷ behind)
    ∙ ap (λ r. made ++ r) (sym split) ∙ led
