-- What was cleaned is clean.
use Rattle.std.proofs.Common.{◌≡◌, ℕ, ◌+◌, ◌≤◌, Bool, true, false, List, [], ◌∷◌, ◌++◌, refl, sym, ap, ◌∙◌, subst, append_assoc, append-nil, length, length-append, arith, inl, inr}
use Rattle.std.specs.Prelude.{nat_lt, ◌==◌, ◌&&◌}
use Rattle.std.specs.List.{list_all}
use Rattle.std.proofs.lemmas.Bool.{cases_Bool}
use Rattle.std.proofs.lemmas.Bool.Decides.{eqb_tells}
use borrow.Author.Tests.{ltb-true, ltb-false}
use Rattle.model.specs.Source.{most_bytes}
use Rattle.model.specs.Token.{begins, is_source_byte}
use Rattle.clean_source.specs.Cleaned.{begins_mark, cleaned, cleaned_from, cleaned_line, end_byte, ends_line, is_line_feed, is_mark, shown_from, unmarked}
use Rattle.clean_source.specs.Plain.{CleanedStays}
use Rattle.clean_source.proofs.Kept.{keeps, kept_push, line_kept, line_length, line_twice, one_or_other}
use Rattle.clean_source.proofs.Shown.{all_shown}

-- ---- a line in a text

from_line : (begun line rest : List ℕ) (e : ℕ) → list_all keeps line ≡ true → ends_line e ≡ true
    → cleaned_from begun (line ++ e ∷ rest) ≡ cleaned_line (begun ++ line) ++ end_byte e rest ∷ cleaned_from [] rest
unfolding cleaned_from
from_line begun [] rest e k n = rw (n, append-nil begun) refl
from_line begun (b ∷ line) rest e k n = elim (cases_Bool (ends_line b)) [
  | inl t ↦ let f : false ≡ true = rw t at k in absurd cc
  | inr f ↦
      let h = rw f at k in
      let later = from_line (begun ++ b ∷ []) line rest e h n in
      rw f (later ∙ ap (λ (x : List ℕ). cleaned_line x ++ end_byte e rest ∷ cleaned_from [] rest) (append_assoc begun (b ∷ []) line))
]

from_last : (begun line : List ℕ) → list_all keeps line ≡ true → cleaned_from begun line ≡ cleaned_line (begun ++ line)
unfolding cleaned_from
from_last begun [] k = ap cleaned_line (sym (append-nil begun))
from_last begun (b ∷ line) k = elim (cases_Bool (ends_line b)) [
  | inl t ↦ let f : false ≡ true = rw t at k in absurd cc
  | inr f ↦
      let h = rw f at k in
      rw f (from_last (begun ++ b ∷ []) line h ∙ ap cleaned_line (append_assoc begun (b ∷ []) line))
]

-- ---- ends

pub empty_line : cleaned_line [] ≡ []
unfolding shown_from
empty_line = elim (one_or_other []) [ inl s ↦ s | inr s ↦ s ]

end_ends : (b : ℕ) (bytes : List ℕ) → ends_line (end_byte b bytes) ≡ true
end_ends b bytes = elim (cases_Bool ((b == 13) && begins is_line_feed bytes)) [
  | inl t ↦ let s : end_byte b bytes ≡ 13 = rw t refl in ap ends_line s
  | inr f ↦ let s : end_byte b bytes ≡ 10 = rw f refl in ap ends_line s
]

begins_kept : (bytes : List ℕ) → begins is_line_feed bytes ≡ true → begins is_line_feed (cleaned_from [] bytes) ≡ true
unfolding cleaned_from
begins_kept [] h = absurd cc
begins_kept (b ∷ bytes) h = elim (eqb_tells b 10) [
  | inl e ↦ subst (λ x. begins is_line_feed (cleaned_from [] (x ∷ bytes)) ≡ true) (sym e.1) (rw empty_line refl)
  | inr n ↦ let k : false ≡ true = rw n.0 at h in absurd cc
]

both : (a b : Bool) → (a && b) ≡ true → b ≡ true
both true b h = h
both false b h = absurd cc

end_twice : (b : ℕ) (bytes : List ℕ) → end_byte (end_byte b bytes) (cleaned_from [] bytes) ≡ end_byte b bytes
end_twice b bytes = elim (cases_Bool ((b == 13) && begins is_line_feed bytes)) [
  | inl t ↦
      let s : end_byte b bytes ≡ 13 = rw t refl in
      let led : begins is_line_feed (cleaned_from [] bytes) ≡ true = begins_kept bytes (both (b == 13) (begins is_line_feed bytes) t) in
      let r : end_byte 13 (cleaned_from [] bytes) ≡ 13 = rw led refl in
      ap (λ (x : ℕ). end_byte x (cleaned_from [] bytes)) s ∙ (r ∙ sym s)
  | inr f ↦
      let s : end_byte b bytes ≡ 10 = rw f refl in
      ap (λ (x : ℕ). end_byte x (cleaned_from [] bytes)) s ∙ sym s
]

-- ---- all lines

pub from_twice : (begun bytes : List ℕ) → list_all keeps begun ≡ true → cleaned_from [] (cleaned_from begun bytes) ≡ cleaned_from begun bytes
unfolding cleaned_from
from_twice begun [] k = from_last [] (cleaned_line begun) (line_kept begun k) ∙ line_twice begun
from_twice begun (b ∷ bytes) k = elim (cases_Bool (ends_line b)) [
  | inl t ↦
      let e = end_byte b bytes in
      let rest = cleaned_from [] bytes in
      let cut : cleaned_from [] (cleaned_line begun ++ e ∷ rest) ≡ cleaned_line (cleaned_line begun) ++ end_byte e rest ∷ cleaned_from [] rest =
      from_line [] (cleaned_line begun) rest e (line_kept begun k) (end_ends b bytes) in
      let later : cleaned_from [] rest ≡ rest = from_twice [] bytes refl in
      rw t (cut
      ∙ (ap (λ (x : List ℕ). x ++ end_byte e rest ∷ cleaned_from [] rest) (line_twice begun)
      ∙ (ap (λ (x : ℕ). cleaned_line begun ++ x ∷ cleaned_from [] rest) (end_twice b bytes)
      ∙ ap (λ (x : List ℕ). cleaned_line begun ++ e ∷ x) later)))
  | inr f ↦ rw f (from_twice (begun ++ b ∷ []) bytes (kept_push begun b k f))
]

-- ---- the length

pub from_length : (begun bytes : List ℕ) → length (cleaned_from begun bytes) ≤ length begun + length bytes
unfolding cleaned_from
from_length begun [] = omega (arith, line_length begun)
from_length begun (b ∷ bytes) = elim (cases_Bool (ends_line b)) [
  | inl t ↦ rw t (omega (arith, length-append (cleaned_line begun) (end_byte b bytes ∷ cleaned_from [] bytes), line_length begun, from_length [] bytes))
  | inr f ↦ rw f (omega (arith, from_length (begun ++ b ∷ []) bytes, length-append begun (b ∷ [])))
]

pub unmarked_length : (source : List ℕ) → length (unmarked source) ≤ length source
unfolding unmarked
unmarked_length [] = omega arith
unmarked_length (a ∷ []) = omega arith
unmarked_length (a ∷ b ∷ []) = omega arith
unmarked_length (a ∷ b ∷ c ∷ bytes) = elim (cases_Bool (is_mark a b c)) [
  | inl t ↦ rw t (omega (arith, unmarked_length bytes))
  | inr f ↦ rw f (omega arith)
]

-- ---- no mark comes up

-- a list that begins otherwise
head_other : (a : ℕ) (xs : List ℕ) → (a == 239) ≡ false → begins_mark (a ∷ xs) ≡ false
head_other a [] n = refl
head_other a (b ∷ []) n = refl
head_other a (b ∷ c ∷ xs) n = rw n refl

source_small : (b m : ℕ) → is_source_byte m ≡ false → is_source_byte b ≡ true → (b == m) ≡ false
source_small b m f t = elim (eqb_tells b m) [
  | inl e ↦ let k : false ≡ true = sym f ∙ subst (λ x. is_source_byte x ≡ true) e.1 t in absurd cc
  | inr n ↦ n.0
]

first_source : (a : ℕ) (xs : List ℕ) → list_all is_source_byte (a ∷ xs) ≡ true → is_source_byte a ≡ true
first_source a xs h = elim (cases_Bool (is_source_byte a)) [
  | inl t ↦ t
  | inr f ↦ let k : false ≡ true = rw f at h in absurd cc
]

source_bare : (s : List ℕ) → list_all is_source_byte s ≡ true → begins_mark s ≡ false
source_bare [] h = refl
source_bare (a ∷ xs) h = head_other a xs (source_small a 239 refl (first_source a xs h))

-- an end is no byte of a mark
end_other : (b : ℕ) (bytes : List ℕ) (m : ℕ) → (13 == m) ≡ false → (10 == m) ≡ false → (end_byte b bytes == m) ≡ false
end_other b bytes m return feed = elim (cases_Bool ((b == 13) && begins is_line_feed bytes)) [
  | inl t ↦ let s : end_byte b bytes ≡ 13 = rw t refl in ap (λ (x : ℕ). x == m) s ∙ return
  | inr f ↦ let s : end_byte b bytes ≡ 10 = rw f refl in ap (λ (x : ℕ). x == m) s ∙ feed
]

source_then : (s r : List ℕ) (e : ℕ) → list_all is_source_byte s ≡ true → (e == 239) ≡ false → begins_mark (s ++ e ∷ r) ≡ false
source_then [] r e h n = head_other e r n
source_then (a ∷ xs) r e h n = head_other a (xs ++ e ∷ r) (source_small a 239 refl (first_source a xs h))

-- a line that is kept has no mark in front, if its text has none
kept_then : (line r other : List ℕ) (e : ℕ) → (e == 239) ≡ false → (e == 187) ≡ false → (e == 191) ≡ false
    → begins_mark (line ++ other) ≡ false → begins_mark (line ++ e ∷ r) ≡ false
kept_then [] r other e n m l h = head_other e r n
kept_then (a ∷ []) [] other e n m l h = refl
kept_then (a ∷ []) (y ∷ r) other e n m l h = elim (cases_Bool (a == 239)) [
  | inl t ↦ rw (t, m) refl
  | inr f ↦ rw f refl
]
kept_then (a ∷ b ∷ []) r other e n m l h = elim (cases_Bool (a == 239)) [
  | inl t ↦ elim (cases_Bool (b == 187)) [
    | inl u ↦ rw (t, u, l) refl
    | inr g ↦ rw (t, g) refl
  ]
  | inr f ↦ rw f refl
]
kept_then (a ∷ b ∷ c ∷ line) r other e n m l h = h

from_bare : (begun bytes : List ℕ) → begins_mark (begun ++ bytes) ≡ false → begins_mark (cleaned_from begun bytes) ≡ false
unfolding cleaned_from
from_bare begun [] h = elim (one_or_other begun) [
  | inl s ↦ ap begins_mark s ∙ source_bare (shown_from 0 begun) (all_shown 0 begun)
  | inr s ↦ ap begins_mark (s ∙ sym (append-nil begun)) ∙ h
]
from_bare begun (b ∷ bytes) h = elim (cases_Bool (ends_line b)) [
  | inl t ↦
      let e = end_byte b bytes in
      let rest = cleaned_from [] bytes in
      let n = end_other b bytes 239 refl refl in
      rw t (elim (one_or_other begun) [
        | inl s ↦ ap (λ (x : List ℕ). begins_mark (x ++ e ∷ rest)) s ∙ source_then (shown_from 0 begun) rest e (all_shown 0 begun) n
        | inr s ↦ ap (λ (x : List ℕ). begins_mark (x ++ e ∷ rest)) s
            ∙ kept_then begun rest (b ∷ bytes) e n (end_other b bytes 187 refl refl) (end_other b bytes 191 refl refl) h
      ])
  | inr f ↦ rw f (from_bare (begun ++ b ∷ []) bytes (ap begins_mark (append_assoc begun (b ∷ []) bytes) ∙ h))
]

no_mark_left : (source : List ℕ) → begins_mark (unmarked source) ≡ false
unfolding unmarked
no_mark_left [] = refl
no_mark_left (a ∷ []) = refl
no_mark_left (a ∷ b ∷ []) = refl
no_mark_left (a ∷ b ∷ c ∷ bytes) = elim (cases_Bool (is_mark a b c)) [
  | inl t ↦ rw t (no_mark_left bytes)
  | inr f ↦ rw (f, f) refl
]

unmarked_stays : (source : List ℕ) → begins_mark source ≡ false → unmarked source ≡ source
unfolding unmarked
unmarked_stays [] h = refl
unmarked_stays (a ∷ []) h = refl
unmarked_stays (a ∷ b ∷ []) h = refl
unmarked_stays (a ∷ b ∷ c ∷ bytes) h = rw h refl

-- ---- the text

large_or_not : (source : List ℕ) → nat_lt most_bytes (length source) ≡ false → cleaned source ≡ cleaned_from [] (unmarked source)
unfolding cleaned
large_or_not source f = rw f refl

large_stays : (source : List ℕ) → nat_lt most_bytes (length source) ≡ true → cleaned source ≡ source
unfolding cleaned
large_stays source t = rw t refl

still_small : (source : List ℕ) → nat_lt most_bytes (length source) ≡ false → nat_lt most_bytes (length (cleaned_from [] (unmarked source))) ≡ false
still_small source f = elim (cases_Bool (nat_lt most_bytes (length (cleaned_from [] (unmarked source))))) [
  | inl t ↦
      let over = ltb-true most_bytes (length (cleaned_from [] (unmarked source))) t in
      let within = ltb-false most_bytes (length source) f in
      absurd (omega (arith, over, within, from_length [] (unmarked source), unmarked_length source))
  | inr g ↦ g
]

pub cleaned_stays : CleanedStays
cleaned_stays source = elim (cases_Bool (nat_lt most_bytes (length source))) [
  | inl t ↦ ap cleaned (large_stays source t)
  | inr f ↦
      let text = cleaned_from [] (unmarked source) in
      let e : cleaned source ≡ text = large_or_not source f in
      let bare : begins_mark text ≡ false = from_bare [] (unmarked source) (no_mark_left source) in
      let again : cleaned text ≡ cleaned_from [] (unmarked text) = large_or_not text (still_small source f) in
      ap cleaned e ∙ (again ∙ (ap (cleaned_from []) (unmarked_stays text bare) ∙ (from_twice [] (unmarked source) refl ∙ sym e)))
]
