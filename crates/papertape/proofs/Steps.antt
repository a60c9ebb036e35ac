-- One digit more.
use Rattle.std.proofs.Common.{◌≡◌, ℕ, ◌+◌, ◌<◌, ◌≤◌, ltb, Bool, true, List, [], ◌∷◌, ◌++◌, length, take, set, refl, sym, ap, ◌∙◌, arith}
use Rattle.std.specs.List.{list_all}
use Rattle.std.proofs.lemmas.Bool.{and_parts, and_from, le-ltb, cond-false}
use Rattle.std.proofs.lemmas.List.{take_more_set, length-take-le, length-set}
use Rattle.model.specs.Digits.{is_hex_byte}
use Rattle.model.specs.Tape.{Claim, claim_of, needed}
use Rattle.papertape.specs.Reading.{Progress, HoldsDigits, after_record, with_digit}
use Rattle.papertape.proofs.Digits.{needed_small}

pub list_all-append : (test : ℕ → Bool) (xs ys : List ℕ) → list_all test xs ≡ true → list_all test ys ≡ true → list_all test (xs ++ ys) ≡ true
list_all-append test [] ys h k = k
list_all-append test (x ∷ xs) ys h k =
    let p = and_parts _ _ h in and_from (test x) (list_all test (xs ++ ys)) p.0 (list_all-append test xs ys p.1 k)

pub pushed : (held b n : ℕ) (digits : List ℕ) → length digits ≡ 520 → HoldsDigits held digits → is_hex_byte b ≡ true
    → n ≡ needed (take (held + 1) (set digits held b)) → held + 1 < n → HoldsDigits (held + 1) (set digits held b)
pushed held b n digits len h hex e lt =
    let below : held < length digits = omega (arith, h.room) in
    let t : take (held + 1) (set digits held b) ≡ take held digits ++ b ∷ [] = take_more_set digits held b below in
    let small = needed_small (take (held + 1) (set digits held b)) in
    let count : length (take (held + 1) (set digits held b)) ≡ held + 1 =
    length-take-le (held + 1) (set digits held b) (omega (arith, length-set digits held b)) in
    record {
      room = omega (arith, small);
      few = (
        rw t (list_all-append is_hex_byte (take held digits) (b ∷ []) h.few.0 (and_from (is_hex_byte b) true hex refl)),
        omega (arith, count),
      );
    }

pub digit_done : (held b : ℕ) (digits : List ℕ) (s : Progress) (claim : Claim) → s.digits ≡ take held digits → held < length digits
    → needed (take (held + 1) (set digits held b)) ≤ held + 1
    → claim ≡ claim_of (take (held + 1) (set digits held b)) → after_record (record s { digits = [] }) claim ≡ with_digit s b
unfolding with_digit after_record
digit_done held b digits s claim e below le c =
    let t : take (held + 1) (set digits held b) ≡ s.digits ++ b ∷ [] = take_more_set digits held b below ∙ ap (λ (ds : List ℕ). ds ++ b ∷ []) (sym e) in
    let count : length (take (held + 1) (set digits held b)) ≡ held + 1 =
    length-take-le (held + 1) (set digits held b) (omega (arith, length-set digits held b)) in
    let ge : needed (s.digits ++ b ∷ []) ≤ length (s.digits ++ b ∷ []) = rw (← t) (omega (arith, count)) in
    ap (λ (x : Claim). after_record s x) (c ∙ ap claim_of t)
    ∙ sym (cond-false (ltb (length (s.digits ++ b ∷ [])) (needed (s.digits ++ b ∷ []))) _ (after_record s (claim_of (s.digits ++ b ∷ []))) (le-ltb _ _ ge))
