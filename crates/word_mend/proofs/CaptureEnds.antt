-- What follows the end record of a capture.
use Rattle.std.proofs.Common.{◌≡◌, ◌<◌, ◌≤◌, ℕ, zero, suc, ◌+◌, ◌-◌, ◌==◌, if◌then◌else◌, Bool, true, false, List, [], ◌∷◌, ◌++◌, length, take, drop, refl, sym, ap, ◌∙◌, arith, inl, inr}
use Rattle.std.specs.List.{list_all, list_any}
use Rattle.std.proofs.lemmas.Bool.{and_from, and_parts, or_parts}
use Rattle.std.proofs.lemmas.Bool.Decides.{leb_tells}
use Rattle.std.proofs.lemmas.List.{append-nil, drop_all, length-append, take-append-drop}
use Rattle.std.proofs.Math.Seq.{drop-append-add}
use Rattle.model.specs.declared.tape.TapeFault.{TapeFault}
use Rattle.model.specs.declared.tape.TapeFaultKind.{TapeFaultKind}
use Rattle.tape_words.specs.Meanings.{is_no_record}
use Rattle.word_mend.specs.Reported.{is_end, last_record, moved}
use Rattle.word_mend.specs.Captures.{before_record, from_record, moved_capture, up_to_end}

abbrev has_more : List ℕ → Bool
has_more rest = list_any (λ b. b == 59) rest

-- a fact of a choice, from that of each
pub of_choice : (P : List ℕ → Type 0) (c : Bool) (xs ys : List ℕ) → P xs → P ys → P (if c then xs else ys)
of_choice P true xs ys p q = p
of_choice P false xs ys p q = q

abbrev Split : List ℕ → List ℕ → Type 0
Split bytes last = (front : List ℕ) × (bytes ≡ front ++ last)

longer : (b : ℕ) (bytes last : List ℕ) → Split bytes last → Split (b ∷ bytes) last
longer b bytes last s = (b ∷ s.0, ap (λ (xs : List ℕ). b ∷ xs) s.1)

whole : (bytes : List ℕ) → Split bytes bytes
whole bytes = ([], refl)

-- a text is what comes before its last record, and that
split : (bytes : List ℕ) → Split bytes (last_record bytes)
unfolding last_record
split [] = whole []
split (b ∷ bytes) = of_choice (Split (b ∷ bytes)) (has_more bytes) (last_record bytes) (b ∷ bytes) (longer b bytes (last_record bytes) (split bytes))
    (whole (b ∷ bytes))

-- no other record begins in the last one
abbrev IsLast : List ℕ → Type 0
IsLast last = has_more (drop 1 last) ≡ false

alone : (c : Bool) (last bytes : List ℕ) (b : ℕ) → IsLast last → has_more bytes ≡ c → IsLast (if c then last else b ∷ bytes)
alone true last bytes b is none = is
alone false last bytes b is none = none

none_within : (bytes : List ℕ) → IsLast (last_record bytes)
unfolding last_record
none_within [] = refl
none_within (b ∷ bytes) = alone (has_more bytes) (last_record bytes) bytes b (none_within bytes) refl

no_start : (b : ℕ) → (b == 59) ≡ false → is_no_record b ≡ true
no_start b none = rw none refl

none_all : (bytes : List ℕ) → has_more bytes ≡ false → list_all is_no_record bytes ≡ true
none_all [] none = refl
none_all (b ∷ bytes) none =
    let p = or_parts (b == 59) (has_more bytes) none in
    and_from (is_no_record b) (list_all is_no_record bytes) (no_start b p.0) (none_all bytes p.1)

all_drop : (p : ℕ → Bool) (n : ℕ) (xs : List ℕ) → list_all p xs ≡ true → list_all p (drop n xs) ≡ true
all_drop p zero xs all = all
all_drop p (suc n) [] all = refl
all_drop p (suc n) (x ∷ xs) all = all_drop p n xs (and_parts (p x) (list_all p xs) all).1

-- what comes behind the first eleven bytes of the last record
module _ (bytes front : List ℕ) where
  behind_long : (last : List ℕ) → bytes ≡ front ++ last → IsLast last → 11 < length last
      → list_all is_no_record (drop (length bytes - (length last - 11)) bytes) ≡ true
  behind_long [] is none many = absurd (omega (arith, many))
  behind_long (b ∷ rest) is none many =
      let sizes = ap (λ (xs : List ℕ). length xs) is in
      let at : length bytes - (length (b ∷ rest) - 11) ≡ length front + 11 = omega (arith, sizes, length-append front (b ∷ rest), many) in
      ap (λ (n : ℕ). list_all is_no_record (drop n bytes)) at
      ∙ (ap (λ (xs : List ℕ). list_all is_no_record (drop (length front + 11) xs)) is
      ∙ (ap (λ (xs : List ℕ). list_all is_no_record xs) (drop-append-add front (b ∷ rest) 11) ∙ all_drop is_no_record 10 rest (none_all rest none)))

  all_behind : (last : List ℕ) → bytes ≡ front ++ last → IsLast last → list_all is_no_record (drop (length bytes - (length last - 11)) bytes) ≡ true
  all_behind last is none = elim (leb_tells (length last) 11) [
    | inl few ↦
        let past : length bytes ≤ length bytes - (length last - 11) = omega (arith, few.1) in
        ap (λ (xs : List ℕ). list_all is_no_record xs) (drop_all (length bytes - (length last - 11)) bytes past)
    | inr many ↦ behind_long last is none many.1
  ]

-- what is left out behind the records
abbrev pub Behind : List ℕ → List ℕ → Type 0
Behind bytes front = (behind : List ℕ) × (bytes ≡ front ++ behind) × (list_all is_no_record behind ≡ true)

pub cut : (bytes : List ℕ) → Behind bytes (up_to_end bytes)
unfolding up_to_end
cut bytes =
    let s = split bytes in
    let n = length bytes - (length (last_record bytes) - 11) in
    of_choice (Behind bytes) (is_end (last_record bytes)) (take n bytes) bytes
    (drop n bytes, sym (take-append-drop n bytes), all_behind bytes s.0 (last_record bytes) s.1 (none_within bytes))
    ([], sym (append-nil bytes), refl)

-- ---- the place of a fault

abbrev at_place : ℕ → TapeFault → TapeFault
at_place offset fault = record { offset = offset; kind = fault.kind }

pub moved_same : (before tape text : List ℕ) (fault : TapeFault) (kind : TapeFaultKind) (offset : ℕ) → before ≡ before_record text
    → tape ≡ from_record text → fault ≡ moved tape kind offset
    → at_place (length before + fault.offset) fault ≡ moved_capture text kind offset
moved_same before tape text fault kind offset b t is =
    let there : TapeFault = moved (from_record text) kind offset in
    let same : fault ≡ there = is ∙ ap (λ (xs : List ℕ). moved xs kind offset) t in
    ap (λ (xs : List ℕ). at_place (length xs + fault.offset) fault) b ∙ ap (λ (f : TapeFault). at_place (length (before_record text) + f.offset) f) same
