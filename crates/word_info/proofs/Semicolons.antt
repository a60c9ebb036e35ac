-- How many records begin in a tape.
use Rattle.std.proofs.Common.{◌≡◌, ℕ, ◌+◌, ◌-◌, ◌≤◌, ◌==◌, Bool, true, false, List, [], ◌∷◌, ◌++◌, length, take, Option, refl, sym, ap, ◌∙◌, arith, inl, inr}
use Rattle.std.specs.List.{filter, count_by, list_all, AllByRecursion}
use Rattle.std.proofs.lemmas.Bool.{and_parts, cases_Bool, eqb-true}
use Rattle.std.proofs.lemmas.List.{take_all, length-append}
use Rattle.std.proofs.lemmas.List.Elements.{filter-append}
use Rattle.std.proofs.lemmas.List.Sums.{length-filter}
use Rattle.model.specs.Digits.{is_hex_byte}
use Rattle.model.specs.Tape.{Part, gap, record_of, IsPiece, front_of, count_of, is_skipped, TapeDenotes}

abbrev is_semicolon : ℕ → Bool
is_semicolon b = b == 59

pub no_digit : (b : ℕ) → is_hex_byte b ≡ true → (b == 59) ≡ false
no_digit b h = elim (cases_Bool (b == 59)) [
  | inl t ↦ let e : is_hex_byte b ≡ is_hex_byte 59 = ap is_hex_byte (eqb-true b 59 t) in absurd cc
  | inr f ↦ f
]

pub no_gap : (b : ℕ) → is_skipped b ≡ true → (b == 59) ≡ false
no_gap b h = elim (cases_Bool (b == 59)) [
  | inl t ↦ let e : is_skipped b ≡ is_skipped 59 = ap is_skipped (eqb-true b 59 t) in absurd cc
  | inr f ↦ f
]

none_in_digits : (ds : List ℕ) → list_all is_hex_byte ds ≡ true → filter is_semicolon ds ≡ []
none_in_digits [] h = refl
none_in_digits (d ∷ ds) h =
    let p = and_parts (is_hex_byte d) (list_all is_hex_byte ds) h in
    rw (no_digit d p.0) (none_in_digits ds p.1)

none_in_gaps : (bytes : List ℕ) → list_all is_skipped bytes ≡ true → filter is_semicolon bytes ≡ []
none_in_gaps [] h = refl
none_in_gaps (b ∷ bytes) h =
    let p = and_parts (is_skipped b) (list_all is_skipped bytes) h in
    rw (no_gap b p.0) (none_in_gaps bytes p.1)

in_front : (ps : List Part) → AllByRecursion IsPiece ps → length (filter is_semicolon (front_of ps)) ≡ count_of ps
in_front [] h = refl
in_front (gap b ∷ ps) h = rw (no_gap b h.0) (in_front ps h.1)
in_front (record_of ds ∷ ps) h =
    let apart : filter is_semicolon (ds ++ front_of ps) ≡ filter is_semicolon (front_of ps) =
    filter-append is_semicolon ds (front_of ps) ∙ ap (λ (t : List ℕ). t ++ filter is_semicolon (front_of ps)) (none_in_digits ds h.0.all.0) in
    let size = ap (λ (t : List ℕ). length t) apart in
    omega (arith, size, in_front ps h.1)

in_tape : (text : List ℕ) (cells : List (Option ℕ)) (tape : TapeDenotes text cells) → length (filter is_semicolon text) ≡ count_of tape.pieces + 1
in_tape text cells tape =
    let tail : filter is_semicolon (tape.digits ++ tape.tail) ≡ [] =
    filter-append is_semicolon tape.digits tape.tail ∙ ap (λ (t : List ℕ). t ++ filter is_semicolon tape.tail)
    (none_in_digits tape.digits tape.end.all.0) ∙ none_in_gaps tape.tail tape.rest in
    let whole : filter is_semicolon text ≡ filter is_semicolon (front_of tape.pieces) ++ 59 ∷ filter is_semicolon (tape.digits ++ tape.tail) =
    ap (λ (t : List ℕ). filter is_semicolon t) tape.spelled ∙ filter-append is_semicolon (front_of tape.pieces) (59 ∷ tape.digits ++ tape.tail) in
    let size = ap (λ (t : List ℕ). length t) (whole ∙ ap (λ (t : List ℕ). filter is_semicolon (front_of tape.pieces) ++ 59 ∷ t) tail) in
    omega (arith, size, in_front tape.pieces tape.each, length-append (filter is_semicolon (front_of tape.pieces)) (59 ∷ []))

pub counted : (text : List ℕ) (cells : List (Option ℕ)) (n r i : ℕ) → length text ≤ i → n ≡ count_by (λ b. b == 59) (take i text) → r ≡ n - 1
    → (tape : TapeDenotes text cells) → r ≡ count_of tape.pieces
counted text cells n r i past count less tape =
    let all : count_by is_semicolon (take i text) ≡ length (filter is_semicolon text) =
    ap (λ (t : List ℕ). count_by is_semicolon t) (take_all i text past) ∙ sym (length-filter is_semicolon text) in
    omega (arith, all, count, less, in_tape text cells tape)
