-- What is read in the place of a line's bytes.
use Rattle.std.proofs.Common.{◌≡◌, ℕ, zero, suc, ◌+◌, ◌<◌, ◌≤◌, true, false, Option, Some, None, List, [], ◌∷◌, ◌++◌, get_or, refl, sym, ap, ◌∙◌, subst, append_assoc, append-nil, length, take, drop, arith, inl, inr}
use Rattle.std.specs.List.{list_all}
use Rattle.std.proofs.lemmas.Bool.{cases_Bool}
use Rattle.std.proofs.lemmas.List.{drop_all, drop_more}
use Rattle.model.specs.Token.{is_source_byte}
use Rattle.clean_source.specs.Cleaned.{goes_on, shown_byte, shown_from, with_byte}

-- ---- the loop

with_append : (o : Option ℕ) (xs : List ℕ) → with_byte o [] ++ xs ≡ with_byte o xs
with_append None xs = refl
with_append (Some b) xs = refl

-- one byte more
pub byte_more : (made now all line : List ℕ) (i before b : ℕ) → i < length line → b ≡ get_or line i 0
    → now ≡ made ++ with_byte (shown_byte before b) [] → made ++ shown_from before (drop i line) ≡ all
    → now ++ shown_from b (drop (i + 1) line) ≡ all
unfolding shown_from
byte_more made now all line i before b h e is led =
    let rest = shown_from b (drop (i + 1) line) in
    let cut : drop i line ≡ b ∷ drop (i + 1) line = drop_more line i 0 h ∙ ap (λ (x : ℕ). x ∷ drop (i + 1) line) (sym e) in
    let one : shown_from before (drop i line) ≡ with_byte (shown_byte before b) rest = ap (shown_from before) cut in
    ap (λ (x : List ℕ). x ++ rest) is
    ∙ (append_assoc made (with_byte (shown_byte before b) []) rest
    ∙ (ap (λ (x : List ℕ). made ++ x) (with_append (shown_byte before b) rest ∙ sym one) ∙ led))

-- none is left
pub none_left : (made all line : List ℕ) (i before : ℕ) → length line ≤ i → made ++ shown_from before (drop i line) ≡ all → made ≡ all
unfolding shown_from
none_left made all line i before h led =
    sym (append-nil made) ∙ (ap (λ (x : List ℕ). made ++ shown_from before x) (sym (drop_all i line h)) ∙ led)

-- ---- what is kept

pub shown_same : (before : ℕ) (line : List ℕ) → list_all is_source_byte line ≡ true → shown_from before line ≡ line
unfolding shown_from
shown_same before [] h = refl
shown_same before (b ∷ bytes) h = elim (cases_Bool (is_source_byte b)) [
  | inl t ↦
      let k = rw t at h in
      let s : shown_byte before b ≡ Some b = rw t refl in
      ap (λ (o : Option ℕ). with_byte o (shown_from b bytes)) s ∙ ap (λ (x : List ℕ). b ∷ x) (shown_same b bytes k)
  | inr f ↦ let k : false ≡ true = rw f at h in absurd cc
]

pub shown_front : (n before : ℕ) (line : List ℕ) → list_all is_source_byte (take n line) ≡ true → take n (shown_from before line) ≡ take n line
unfolding shown_from
shown_front zero before line h = refl
shown_front (suc n) before [] h = refl
shown_front (suc n) before (b ∷ bytes) h = elim (cases_Bool (is_source_byte b)) [
  | inl t ↦
      let k = rw t at h in
      let s : shown_byte before b ≡ Some b = rw t refl in
      ap (λ (o : Option ℕ). take (suc n) (with_byte o (shown_from b bytes))) s ∙ ap (λ (x : List ℕ). b ∷ x) (shown_front n b bytes k)
  | inr f ↦ let k : false ≡ true = rw f at h in absurd cc
]

-- ---- what is made

pub all_shown : (before : ℕ) (line : List ℕ) → list_all is_source_byte (shown_from before line) ≡ true
unfolding shown_from
all_shown before [] = refl
all_shown before (b ∷ bytes) =
    let P : Option ℕ → Type 0 = λ o. list_all is_source_byte (with_byte o (shown_from b bytes)) ≡ true in
    elim (cases_Bool (is_source_byte b)) [
      | inl t ↦ let s : shown_byte before b ≡ Some b = rw t refl in subst P (sym s) (rw t (all_shown b bytes))
      | inr f ↦ elim (cases_Bool (goes_on before b)) [
        | inl g ↦ let s : shown_byte before b ≡ None = rw (f, g) refl in subst P (sym s) (all_shown b bytes)
        | inr g ↦ let s : shown_byte before b ≡ Some 63 = rw (f, g) refl in subst P (sym s) (all_shown b bytes)
      ]
    ]

with_length : (o : Option ℕ) (xs : List ℕ) → length (with_byte o xs) ≤ length xs + 1
with_length None xs = omega arith
with_length (Some b) xs = omega arith

pub shown_length : (before : ℕ) (line : List ℕ) → length (shown_from before line) ≤ length line
unfolding shown_from
shown_length before [] = omega arith
shown_length before (b ∷ bytes) = omega (arith, with_length (shown_byte before b) (shown_from b bytes), shown_length b bytes)

-- the first byte of a line that begins with one of a source
pub shown_some : (b : ℕ) (bytes : List ℕ) → is_source_byte b ≡ true → 0 < length (shown_from 0 (b ∷ bytes))
unfolding shown_from
shown_some b bytes t =
    let s : shown_byte 0 b ≡ Some b = rw t refl in
    subst (λ o. 0 < length (with_byte o (shown_from b bytes))) (sym s) (omega arith)
