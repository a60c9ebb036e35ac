-- A line has no end in it, and cleaning it leaves that so.
use Rattle.std.proofs.Common.{◌≡◌, ℕ, zero, suc, ◌-◌, ◌<◌, ◌≤◌, ◌⊎◌, Bool, true, false, not, List, [], ◌∷◌, ◌++◌, get_or, refl, sym, ap, ◌∙◌, subst, length, take, arith, inl, inr, map, None}
use Rattle.std.specs.Prelude.{nat_lt, ◌&&◌}
use Rattle.std.specs.Io.BufRead.{ends_with_byte, strip_last}
use Rattle.std.specs.List.{list_all}
use Rattle.std.proofs.lemmas.Bool.{cases_Bool, lt-ltb}
use Rattle.std.proofs.lemmas.Bool.Decides.{eqb_tells}
use Rattle.std.proofs.lemmas.List.{get_or_push, length_push, take_at}
use Rattle.model.specs.Token.{is_source_byte, token_at, tokens_from, tokens_of}
use Rattle.clean_source.specs.Cleaned.{cleaned_line, ends_line, is_clean_before_comment, is_clean_by, seen_byte, shown_from}
use Rattle.clean_source.proofs.Plain.{no_end, plain_line}
use Rattle.clean_source.proofs.Shown.{all_shown, shown_front, shown_length, shown_some}

abbrev pub keeps : ℕ → Bool
keeps b = not (ends_line b)

pub source_kept : (line : List ℕ) → list_all is_source_byte line ≡ true → list_all keeps line ≡ true
source_kept [] h = refl
source_kept (b ∷ bytes) h = elim (cases_Bool (is_source_byte b)) [
  | inl t ↦ let k = rw t at h in rw (no_end b t) (source_kept bytes k)
  | inr f ↦ let k : false ≡ true = rw f at h in absurd cc
]

-- ---- lines

pub one_or_other : (line : List ℕ) → (cleaned_line line ≡ shown_from 0 line) ⊎ (cleaned_line line ≡ line)
unfolding cleaned_line
one_or_other line = elim (cases_Bool (is_clean_before_comment line)) [
  | inl t ↦ inl (rw t refl)
  | inr f ↦ inr (rw f refl)
]

pub line_twice : (line : List ℕ) → cleaned_line (cleaned_line line) ≡ cleaned_line line
line_twice line = elim (one_or_other line) [
  | inl s ↦ ap cleaned_line s ∙ (plain_line (shown_from 0 line) (all_shown 0 line) ∙ sym s)
  | inr s ↦ ap cleaned_line s
]

pub line_kept : (line : List ℕ) → list_all keeps line ≡ true → list_all keeps (cleaned_line line) ≡ true
line_kept line h = elim (one_or_other line) [
  | inl s ↦ subst (λ x. list_all keeps x ≡ true) (sym s) (source_kept (shown_from 0 line) (all_shown 0 line))
  | inr s ↦ subst (λ x. list_all keeps x ≡ true) (sym s) h
]

pub line_length : (line : List ℕ) → length (cleaned_line line) ≤ length line
line_length line = elim (one_or_other line) [
  | inl s ↦ subst (λ x. length x ≤ length line) (sym s) (shown_length 0 line)
  | inr s ↦ subst (λ x. length x ≤ length line) (sym s) (omega arith)
]

pub line_front : (line : List ℕ) (n : ℕ) → list_all is_source_byte (take n line) ≡ true → take n (cleaned_line line) ≡ take n line
line_front line n h = elim (one_or_other line) [
  | inl s ↦ ap (λ (x : List ℕ). take n x) s ∙ shown_front n 0 line h
  | inr s ↦ ap (λ (x : List ℕ). take n x) s
]

-- ---- a line of some bytes stays one

-- no token begins with `?`
no_token : (bytes : List ℕ) → tokens_of (63 ∷ bytes) ≡ None
unfolding tokens_of tokens_from token_at
no_token bytes = elim (cases_Bool (list_all is_source_byte bytes)) [
  | inl t ↦ rw t refl
  | inr f ↦ rw f refl
]

first_is_source : (b : ℕ) (bytes : List ℕ) → is_clean_before_comment (b ∷ bytes) ≡ true → is_source_byte b ≡ true
first_is_source b bytes h = elim (cases_Bool (is_source_byte b)) [
  | inl t ↦ t
  | inr f ↦
      let s : seen_byte b ≡ 63 = rw f refl in
      let none : tokens_of (map seen_byte (b ∷ bytes)) ≡ None = ap (λ (x : ℕ). tokens_of (x ∷ map seen_byte bytes)) s ∙ no_token (map seen_byte bytes) in
      let k : false ≡ true = sym (ap (is_clean_by (b ∷ bytes)) none) ∙ h in absurd cc
]

pub line_some : (b : ℕ) (bytes : List ℕ) → 0 < length (cleaned_line (b ∷ bytes))
unfolding cleaned_line
line_some b bytes = elim (cases_Bool (is_clean_before_comment (b ∷ bytes))) [
  | inl t ↦ rw t (shown_some b bytes (first_is_source b bytes t))
  | inr f ↦ rw f (omega arith)
]

pub kept_push : (begun : List ℕ) (b : ℕ) → list_all keeps begun ≡ true → ends_line b ≡ false → list_all keeps (begun ++ b ∷ []) ≡ true
kept_push [] b h f = rw f refl
kept_push (x ∷ xs) b h f = elim (cases_Bool (ends_line x)) [
  | inl t ↦ let k : false ≡ true = rw t at h in absurd cc
  | inr g ↦ let k = rw g at h in rw g (kept_push xs b k f)
]

-- ---- the end of a line

kept_at : (xs : List ℕ) (i : ℕ) → list_all keeps xs ≡ true → i < length xs → ends_line (get_or xs i 0) ≡ false
kept_at [] i h l = absurd (omega (arith, l))
kept_at (x ∷ xs) zero h l = elim (cases_Bool (ends_line x)) [
  | inl t ↦ let k : false ≡ true = rw t at h in absurd cc
  | inr f ↦ f
]
kept_at (x ∷ xs) (suc i) h l = elim (cases_Bool (ends_line x)) [
  | inl t ↦ let k : false ≡ true = rw t at h in absurd cc
  | inr f ↦ let k = rw f at h in kept_at xs i k (omega (arith, l))
]

and_false : (a : Bool) → (a && false) ≡ false
and_false true = refl
and_false false = refl

no_return : (line : List ℕ) → list_all keeps line ≡ true → ends_with_byte 13 line ≡ false
no_return [] h = refl
no_return (x ∷ xs) h = elim (eqb_tells (get_or (x ∷ xs) (length (x ∷ xs) - 1) 0) 13) [
  | inl e ↦
      let k : ends_line (get_or (x ∷ xs) (length (x ∷ xs) - 1) 0) ≡ false = kept_at (x ∷ xs) (length (x ∷ xs) - 1) h (omega arith) in
      let m : ends_line 13 ≡ false = subst (λ y. ends_line y ≡ false) e.1 k in absurd cc
  | inr n ↦ rw n.0 (and_false (nat_lt 0 (length (x ∷ xs))))
]

pub strip_kept : (line : List ℕ) → list_all keeps line ≡ true → strip_last 13 line ≡ line
strip_kept line h = rw (no_return line h) refl

pub strip_push : (xs : List ℕ) → strip_last 13 (xs ++ 13 ∷ []) ≡ xs
strip_push xs =
    let n : length (xs ++ 13 ∷ []) ≡ suc (length xs) = omega (arith, length_push xs 13) in
    let at : suc (length xs) - 1 ≡ length xs = omega arith in
    let some : nat_lt 0 (suc (length xs)) ≡ true = lt-ltb 0 (suc (length xs)) (omega arith) in
    rw (n, at, get_or_push xs 13 0 (length xs) refl, take_at xs (13 ∷ []) (length xs) refl, some) refl
