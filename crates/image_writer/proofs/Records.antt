-- The parts of a record, one after another.
use Rattle.std.proofs.Common.{◌≡◌, ℕ, ◌+◌, ◌-◌, ◌%◌, List, [], ◌∷◌, ◌++◌, sum, Result, Ok, Err, is_ok, refl, sym, ap, ◌∙◌, arith, append_assoc}
use Rattle.std.specs.Prelude.{IfOk, if◌then◌else◌}
use Rattle.hex.specs.Hex.{encode_upper, encode_with, upper_digits}
use Rattle.std.specs.Prelude.{slice_index, ◌/◌}
use Rattle.papertape.proofs.Texts.{sum-cons}
use Rattle.image_writer.specs.ImageTexts.{checksum, record_text}

pub sum_append : (xs ys : List ℕ) → sum (xs ++ ys) ≡ sum xs + sum ys
sum_append [] ys = omega arith
sum_append (x ∷ xs) ys =
    let a = sum-cons x (xs ++ ys) in
    let b = sum-cons x xs in
    let k = sum_append xs ys in
    omega (arith, a, b, k)

pub checksum_of : (total : ℕ) (head bytes : List ℕ) (a b : ℕ) → a ≡ sum head → b ≡ sum bytes
    → (total + 256 - (a + b) % 256) % 256 ≡ checksum total (head ++ bytes)
checksum_of total head bytes a b e f =
    let s = sum_append head bytes in
    let same : a + b ≡ sum (head ++ bytes) = omega (arith, s, e, f) in
    ap (λ (k : ℕ). (total + 256 - k % 256) % 256) same

encode_append : (xs ys : List ℕ) → encode_upper (xs ++ ys) ≡ encode_upper xs ++ encode_upper ys
unfolding encode_with
encode_append [] ys = refl
encode_append (x ∷ xs) ys = ap (λ (t : List ℕ). slice_index upper_digits (x / 16) ∷ slice_index upper_digits (x % 16) ∷ t) (encode_append xs ys)

regroup : (a m h b c e : List ℕ) → ((((a ++ m) ++ h) ++ b) ++ c) ++ e ≡ a ++ (m ++ (((h ++ b) ++ c) ++ e))
regroup a m h b c e = simp append_assoc refl

whole_record : (total : ℕ) (mark head bytes a : List ℕ)
    → ((((a ++ mark) ++ encode_upper head) ++ encode_upper bytes) ++ encode_upper (checksum total (head ++ bytes) ∷ [])) ++ 13 ∷ 10 ∷ [] ≡ a
    ++ record_text mark total (head ++ bytes)
whole_record total mark head bytes a =
    let check = checksum total (head ++ bytes) in
    regroup a mark (encode_upper head) (encode_upper bytes) (encode_upper (check ∷ [])) (13 ∷ 10 ∷ [])
    ∙ ap (λ (t : List ℕ). a ++ (mark ++ ((t ++ encode_upper (check ∷ [])) ++ 13 ∷ 10 ∷ []))) (sym (encode_append head bytes))
    ∙ ap (λ (t : List ℕ). a ++ (mark ++ (t ++ 13 ∷ 10 ∷ []))) (sym (encode_append (head ++ bytes) (check ∷ [])))

pub record_done : {E : Type 0} (r : Result Unit E) (total check : ℕ) (mark head bytes a b c d e f : List ℕ) → check ≡ checksum total (head ++ bytes)
    → b ≡ a ++ mark → c ≡ b ++ encode_upper head → d ≡ c ++ encode_upper bytes → e ≡ d ++ encode_upper (check ∷ [])
    → f ≡ (if is_ok r then e ++ 13 ∷ 10 ∷ [] else e) → IfOk r (λ _. f ≡ a ++ record_text mark total (head ++ bytes))
record_done (Err x) total check mark head bytes a b c d e f k hb hc hd he hf = tt
record_done (Ok u) total check mark head bytes a b c d e f k hb hc hd he hf =
    let all : e ≡ (((a ++ mark) ++ encode_upper head) ++ encode_upper bytes) ++ encode_upper (checksum total (head ++ bytes) ∷ []) =
    rw (he, hd, hc, hb, k) refl in
    hf ∙ ap (λ (t : List ℕ). t ++ 13 ∷ 10 ∷ []) all ∙ whole_record total mark head bytes a
