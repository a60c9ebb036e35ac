-- The lines that are cut from a text of lines with their ends, and those of them that are read.
use Rattle.std.proofs.Common.{◌≡◌, ℕ, zero, suc, ◌-◌, ◌<◌, List, [], ◌∷◌, ◌++◌, length, Bool, true, false, refl, ap, ◌∙◌, arith, inl, inr, append_assoc, append-nil, get_or}
use Rattle.std.specs.Prelude.{◌&&◌, ◌==◌, ⊤}
use Rattle.std.specs.List.{list_all, flat_map}
use Rattle.std.specs.Io.BufRead.{strip_last}
use Rattle.std.proofs.lemmas.Bool.{lt-ltb}
use Rattle.std.proofs.lemmas.Bool.Decides.{eqb_tells}
use Rattle.model.specs.declared.instruction.Profile.{Profile}
use Rattle.model.specs.TextLines.{lines_from, lines_of, last_line}
use Rattle.model.specs.Token.{is_source_byte}
use Rattle.model.specs.SourceLine.{read_line}
use Rattle.model.specs.Source.{is_end, up_to_end}
use Rattle.source_forms.specs.Rows.{ended}

and_true : (s t : Bool) → (s && t) ≡ true → (s ≡ true) × (t ≡ true)
and_true true t h = (refl, h)
and_true false t h = absurd cc

no_lf : (b : ℕ) → is_source_byte b ≡ true → (b == 10) ≡ false
no_lf b source = elim (eqb_tells b 10) [
  | inl same ↦ let never : is_source_byte 10 ≡ true = rw same.1 at source in absurd cc
  | inr other ↦ other.0
]

no_cr : (b : ℕ) → is_source_byte b ≡ true → (b == 13) ≡ false
no_cr b source = elim (eqb_tells b 13) [
  | inl same ↦ let never : is_source_byte 13 ≡ true = rw same.1 at source in absurd cc
  | inr other ↦ other.0
]

-- no byte of a line is an end
abbrev pub IsPlain : List ℕ → Type 0
IsPlain line = list_all is_source_byte line ≡ true

at_each : (line : List ℕ) (i : ℕ) → i < length line → IsPlain line
    → is_source_byte (get_or line i 0) ≡ true
at_each [] i inside plain = absurd (omega (arith, inside))
at_each (b ∷ line) zero inside plain = (and_true _ _ plain).0
at_each (b ∷ line) (suc i) inside plain = at_each line i (omega (arith, inside)) (and_true _ _ plain).1

whole : (line : List ℕ) → IsPlain line → strip_last 13 line ≡ line
whole [] plain = refl
whole (b ∷ line) plain =
    let last : is_source_byte (get_or (b ∷ line) (length (b ∷ line) - 1) 0) ≡ true = at_each (b ∷ line) (length (b ∷ line) - 1) (omega arith) plain in
    rw (lt-ltb 0 (length (b ∷ line)) (omega arith), no_cr (get_or (b ∷ line) (length (b ∷ line) - 1) 0) last) refl

cut : (begun line rest : List ℕ) → IsPlain line → lines_from last_line begun (line ++ 10 ∷ rest)
    ≡ strip_last 13 (begun ++ line) ∷ lines_from last_line [] rest
unfolding lines_from
cut begun [] rest plain = rw append-nil refl
cut begun (b ∷ line) rest plain =
    let later = cut (begun ++ b ∷ []) line rest (and_true _ _ plain).1 in
    rw (no_lf b (and_true _ _ plain).0) (rw append_assoc at later)

abbrev pub ArePlain : List (List ℕ) → Type 0
ArePlain [] = ⊤
ArePlain (line ∷ lines) = IsPlain line × ArePlain lines

first_cut : (line rest : List ℕ) → IsPlain line
    → lines_of ((line ++ 10 ∷ []) ++ rest) ≡ line ∷ lines_of rest
first_cut line rest plain = rw append_assoc (cut [] line rest plain ∙ ap (λ (l : List ℕ). l ∷ lines_of rest) (whole line plain))

pub text_cut : (lines : List (List ℕ)) → ArePlain lines → lines_of (flat_map ended lines) ≡ lines
unfolding lines_from
text_cut [] plain = refl
text_cut (line ∷ lines) plain = first_cut line (flat_map ended lines) plain.0 ∙ ap (λ (ls : List (List ℕ)). line ∷ ls) (text_cut lines plain.1)

-- none of some lines is `.END`
abbrev pub GoOn : Profile → List (List ℕ) → Type 0
GoOn profile [] = ⊤
GoOn profile (line ∷ lines) = (is_end (read_line profile line) ≡ false) × GoOn profile lines

pub all_read : (profile : Profile) (lines : List (List ℕ)) → GoOn profile lines
    → up_to_end profile lines ≡ lines
all_read profile [] on = refl
all_read profile (line ∷ lines) on = rw on.0 (ap (λ (ls : List (List ℕ)). line ∷ ls) (all_read profile lines on.1))
