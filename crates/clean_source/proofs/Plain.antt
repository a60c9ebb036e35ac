-- What cleaning leaves as it is.
use Rattle.std.proofs.Common.{◌≡◌, ℕ, Bool, true, false, List, [], ◌∷◌, ◌++◌, refl, sym, ◌∙◌, subst, append_assoc, append-nil, length, inl, inr}
use Rattle.std.specs.Prelude.{◌==◌, ◌&&◌, ◌||◌, nat_lt}
use Rattle.std.specs.List.{list_all}
use Rattle.std.proofs.lemmas.Bool.{cases_Bool}
use Rattle.std.proofs.lemmas.Bool.Decides.{eqb_tells}
use Rattle.model.specs.Source.{most_bytes}
use Rattle.model.specs.Token.{begins, is_source_byte}
use Rattle.clean_source.specs.Cleaned.{cleaned, cleaned_from, cleaned_line, end_byte, ends_line, is_clean_before_comment, is_line_feed, is_mark, unmarked}
use Rattle.clean_source.specs.Plain.{PlainStays, is_plain}
use Rattle.clean_source.proofs.Shown.{shown_same}

-- ---- a line

pub plain_line : (line : List ℕ) → list_all is_source_byte line ≡ true → cleaned_line line ≡ line
unfolding cleaned_line
plain_line line h = elim (cases_Bool (is_clean_before_comment line)) [
  | inl t ↦ rw t (shown_same 0 line h)
  | inr f ↦ rw f refl
]

-- ---- a text

-- no byte of a line ends one
pub no_end : (b : ℕ) → is_source_byte b ≡ true → ends_line b ≡ false
no_end b h = elim (eqb_tells b 10) [
  | inl e ↦ let k : is_source_byte 10 ≡ true = subst (λ x. is_source_byte x ≡ true) e.1 h in absurd cc
  | inr n ↦ elim (eqb_tells b 13) [
    | inl e ↦ let k : is_source_byte 13 ≡ true = subst (λ x. is_source_byte x ≡ true) e.1 h in absurd cc
    | inr m ↦ rw (n.0, m.0) refl
  ]
]

-- an end that is by the grammar stays
plain_end : (b : ℕ) (bytes : List ℕ) → is_source_byte b ≡ false
    → (is_source_byte b || (b == 10) || ((b == 13) && begins is_line_feed bytes)) ≡ true
    → (ends_line b ≡ true) × (end_byte b bytes ≡ b)
plain_end b bytes f h = elim (eqb_tells b 10) [
  | inl e ↦ subst (λ x. (ends_line x ≡ true) × (end_byte x bytes ≡ x)) (sym e.1) (refl, refl)
  | inr n ↦ elim (eqb_tells b 13) [
    | inl e ↦
        let k : begins is_line_feed bytes ≡ true = rw (f, n.0, e.0) at h in
        subst (λ x. (ends_line x ≡ true) × (end_byte x bytes ≡ x)) (sym e.1) (refl, rw k refl)
    | inr m ↦ let k : false ≡ true = rw (f, n.0, m.0) at h in absurd cc
  ]
]

all_push : (begun : List ℕ) (b : ℕ) → list_all is_source_byte begun ≡ true → is_source_byte b ≡ true
    → list_all is_source_byte (begun ++ b ∷ []) ≡ true
all_push [] b g t = rw t refl
all_push (x ∷ xs) b g t = elim (cases_Bool (is_source_byte x)) [
  | inl u ↦ let k = rw u at g in rw u (all_push xs b k t)
  | inr v ↦ let k : false ≡ true = rw v at g in absurd cc
]

and_left : (a b : Bool) → (a && b) ≡ true → a ≡ true
and_left true b h = refl
and_left false b h = h

and_right : (a b : Bool) → (a && b) ≡ true → b ≡ true
and_right true b h = h
and_right false b h = absurd cc

pub plain_from : (begun bytes : List ℕ) → list_all is_source_byte begun ≡ true → is_plain bytes ≡ true
    → cleaned_from begun bytes ≡ begun ++ bytes
unfolding cleaned_from is_plain
plain_from begun [] g p = plain_line begun g ∙ sym (append-nil begun)
plain_from begun (b ∷ bytes) g p =
    let first : (is_source_byte b || (b == 10) || ((b == 13) && begins is_line_feed bytes)) ≡ true = and_left _ (is_plain bytes) p in
    let rest : is_plain bytes ≡ true = and_right (is_source_byte b || (b == 10) || ((b == 13) && begins is_line_feed bytes)) _ p in
    elim (cases_Bool (is_source_byte b)) [
      | inl t ↦
          let later = plain_from (begun ++ b ∷ []) bytes (all_push begun b g t) rest in
          rw (no_end b t) (later ∙ append_assoc begun (b ∷ []) bytes)
      | inr f ↦
          let end = plain_end b bytes f first in
          let behind : cleaned_from [] bytes ≡ bytes = plain_from [] bytes refl rest in
          rw (end.0, end.1, plain_line begun g, behind) refl
    ]

-- a mark is no text by the grammar
no_mark : (a b c : ℕ) (bytes : List ℕ) → is_plain (a ∷ bytes) ≡ true → is_mark a b c ≡ false
unfolding is_plain
no_mark a b c bytes p = elim (eqb_tells a 239) [
  | inl e ↦ let k : is_plain (239 ∷ bytes) ≡ true = subst (λ x. is_plain (x ∷ bytes) ≡ true) e.1 p in absurd cc
  | inr n ↦ rw n.0 refl
]

pub unmarked_plain : (source : List ℕ) → is_plain source ≡ true → unmarked source ≡ source
unfolding unmarked
unmarked_plain [] p = refl
unmarked_plain (a ∷ []) p = refl
unmarked_plain (a ∷ b ∷ []) p = refl
unmarked_plain (a ∷ b ∷ c ∷ bytes) p = rw (no_mark a b c (b ∷ c ∷ bytes) p) refl

pub plain_stays : PlainStays
unfolding cleaned
plain_stays source p = elim (cases_Bool (nat_lt most_bytes (length source))) [
  | inl t ↦ rw t refl
  | inr f ↦ rw (f, unmarked_plain source p) (plain_from [] source refl p)
]
