-- What is written in digits is what the digits say.
use Rattle.std.proofs.Common.{◌≡◌, ℕ, suc, ◌+◌, ◌*◌, ◌/◌, ◌%◌, ◌<◌, List, [], ◌∷◌, ◌++◌, sum, length, slice_index, Option, unwrap_or, refl, sym, ap, ◌∙◌, arith, append_assoc}
use Rattle.std.proofs.lemmas.List.{take_at, get_or_at, length-append}
use Rattle.hex.specs.Hex.{encode_with, encode_upper}
use Rattle.hex.proofs.HexLemmas.{IsDigits-upper_digits}
use Rattle.model.specs.Tape.{claim_in, bytes_of_digits}
use Rattle.model.specs.TapeText.{with_sum}

abbrev pub AreBytes : List ℕ → Type 0
AreBytes [] = Unit {0}
AreBytes (b ∷ bs) = (b < 256) × AreBytes bs

pub bytes_of-encode : (bs : List ℕ) → AreBytes bs → bytes_of_digits (encode_upper bs) ≡ bs
unfolding encode_with
bytes_of-encode [] h = refl
bytes_of-encode (b ∷ bs) h =
    let hi = ap (λ (o : Option ℕ). unwrap_or o 0) (IsDigits-upper_digits (b / 16) (omega (arith, h.0))) in
    let lo = ap (λ (o : Option ℕ). unwrap_or o 0) (IsDigits-upper_digits (b % 16) (omega arith)) in
    rw (hi, lo, bytes_of-encode bs h.1) (ap (λ x. x ∷ bs) (omega arith))

pub claim_line : (n hi lo : ℕ) (bs : List ℕ) → n ≡ length bs
    → claim_in (with_sum (n ∷ hi ∷ lo ∷ bs)) ≡ record {
      length = n;
      address = hi * 256 + lo;
      bytes = bs;
      sum =
          sum (n ∷ hi ∷ lo ∷ bs) % 65536;
      checksum = sum (n ∷ hi ∷ lo ∷ bs) % 65536 / 256 * 256 + sum (n ∷ hi ∷ lo ∷ bs) % 65536 % 256;
    }
claim_line n hi lo bs e =
    let s = sum (n ∷ hi ∷ lo ∷ bs) % 65536 in
    let x = s / 256 in
    let y = s % 256 in
    let three : 3 + n ≡ suc (suc (suc n)) = omega arith in
    let four : 4 + n ≡ suc (suc (suc (suc n))) = omega arith in
    let last : slice_index (bs ++ x ∷ y ∷ []) (suc n) ≡ y =
    ap (λ (t : List ℕ). slice_index t (suc n)) (sym (append_assoc bs (x ∷ []) (y ∷ [])))
    ∙ get_or_at (bs ++ x ∷ []) y [] 0 (suc n) (omega (arith, e, length-append bs (x ∷ []))) in
    rw (three, four, take_at bs (x ∷ y ∷ []) n (sym e), get_or_at bs x (y ∷ []) 0 n (sym e), last) refl
