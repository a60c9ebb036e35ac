-- The texts that the writer appends.
use Rattle.std.proofs.Common.{◌≡◌, ℕ, zero, suc, ◌+◌, ◌≤◌, ◌/◌, ◌%◌, List, [], ◌∷◌, ◌++◌, length, drop, slice_index, sum, Option, None, Result, Ok, Err, refl, sym, ap, ◌∙◌, arith, append_assoc, is_ok}
use Rattle.std.specs.Prelude.{IfOk, if◌then◌else◌}
use Rattle.std.specs.List.{fold, flat_map}
use Rattle.std.proofs.lemmas.List.{append-nil}
use Rattle.hex.specs.Hex.{encode_with, encode_upper, upper_digits}
use Rattle.model.specs.TapeText.{word, with_sum, line, end_line, data_line, tape_text}
use Rattle.papertape.specs.Writing.{cuts, IsNext}
use Rattle.papertape.proofs.Runs.{cuts_pieces}
use Rattle.papertape.proofs.Written.{cut_text}

encode-append : (xs ys : List ℕ) → encode_upper (xs ++ ys) ≡ encode_upper xs ++ encode_upper ys
unfolding encode_with
encode-append [] ys = refl
encode-append (x ∷ xs) ys = ap (λ (t : List ℕ). slice_index upper_digits (x / 16) ∷ slice_index upper_digits (x % 16) ∷ t) (encode-append xs ys)

-- one byte more
pub pushed_byte : (bytes start out more : List ℕ) (b i : ℕ) (rest : List ℕ) → drop i bytes ≡ b ∷ rest → out ++ encode_upper (drop i bytes) ≡ start
    → more ≡ out ++ encode_upper (b ∷ []) → more ++ encode_upper rest ≡ start
pushed_byte bytes start out more b i rest e same pushed =
    ap (λ (t : List ℕ). t ++ encode_upper rest) pushed ∙ append_assoc out (encode_upper (b ∷ [])) (encode_upper rest)
    ∙ ap (λ (t : List ℕ). out ++ t) (sym (encode-append (b ∷ []) rest) ∙ ap encode_upper (sym e)) ∙ same

-- no byte more
pub pushed_all : (bytes out start : List ℕ) (i : ℕ) → length bytes ≤ i → out ++ encode_upper (drop i bytes) ≡ start → out ≡ start
unfolding encode_with
pushed_all bytes out start i h same =
    let none : drop i bytes ≡ [] = drop_all bytes i h in
    sym (append-nil out) ∙ ap (λ (t : List ℕ). out ++ encode_upper t) (sym none) ∙ same where
      drop_all : (xs : List ℕ) (k : ℕ) → length xs ≤ k → drop k xs ≡ []
      drop_all [] zero le = refl
      drop_all [] (suc k) le = refl
      drop_all (x ∷ xs) zero le = absurd (omega arith)
      drop_all (x ∷ xs) (suc k) le = drop_all xs k (omega arith)

pub pushed_word : {E : Type 0} (r : Result Unit E) (a b c : List ℕ) (n : ℕ) → b ≡ a ++ encode_upper (n / 256 ∷ [])
    → IfOk r (λ _. c ≡ b ++ encode_upper (n % 256 ∷ [])) → IfOk r (λ _. c ≡ a ++ encode_upper (word n))
pushed_word (Err e) a b c n h k = tt
pushed_word (Ok u) a b c n h k =
    k ∙ ap (λ (t : List ℕ). t ++ encode_upper (n % 256 ∷ [])) h ∙ append_assoc a (encode_upper (n / 256 ∷ [])) (encode_upper (n % 256 ∷ []))
    ∙ ap (λ (t : List ℕ). a ++ t) (sym (encode-append (n / 256 ∷ []) (n % 256 ∷ [])))

fold-from : (xs : List ℕ) (a : ℕ) → fold (λ (s x : ℕ). s + x) a xs ≡ a + sum xs
fold-from [] a = omega arith
fold-from (x ∷ xs) a = let h = fold-from xs (a + x) in let k = fold-from xs (0 + x) in omega (arith, h, k)

pub sum-cons : (x : ℕ) (xs : List ℕ) → sum (x ∷ xs) ≡ x + sum xs
sum-cons x xs = let h = fold-from xs (0 + x) in omega (arith, h)

-- the sum of a record's bytes
pub record_sum : (n number : ℕ) (bytes : List ℕ) → sum (n ∷ word number ++ bytes) ≡ n + number / 256 + number % 256 + sum bytes
record_sum n number bytes = let h = fold-from bytes (0 + n + number / 256 + number % 256) in omega (arith, h)

regroup : (a b c d e f t : List ℕ) → (((((a ++ b) ++ c) ++ d) ++ e) ++ f) ++ t ≡ a ++ (b ++ ((c ++ (d ++ (e ++ f))) ++ t))
regroup a b c d e f t = simp append_assoc refl

-- a record's parts, one after the other
pub record_text : (n number check : ℕ) (bytes a b c d e f : List ℕ) → check ≡ (n + number / 256 + number % 256 + sum bytes) % 65536
    → b ≡ a ++ 59 ∷ [] → c ≡ b ++ encode_upper (n ∷ []) → d ≡ c ++ encode_upper (word number) → e ≡ d ++ encode_upper bytes → f ≡ e ++ encode_upper (word check)
    → f ++ 13 ∷ 10 ∷ [] ≡ a ++ line (n ∷ word number ++ bytes)
record_text n number check bytes a b c d e f sum_is hb hc hd he hf =
    let s = sum (n ∷ word number ++ bytes) % 65536 in
    let sum_same : check ≡ s = sum_is ∙ ap (λ (k : ℕ). k % 65536) (sym (record_sum n number bytes)) in
    let digits : encode_upper (n ∷ []) ++ (encode_upper (word number) ++ (encode_upper bytes ++ encode_upper (word s)))
    ≡ encode_upper (with_sum (n ∷ word number ++ bytes)) =
    ap (λ (t : List ℕ). encode_upper (n ∷ []) ++ (encode_upper (word number) ++ t)) (sym (encode-append bytes (word s)))
    ∙ ap (λ (t : List ℕ). encode_upper (n ∷ []) ++ t) (sym (encode-append (word number) (bytes ++ word s)))
    ∙ sym (encode-append (n ∷ []) (word number ++ (bytes ++ word s))) in
    let whole : f ≡ ((((a ++ 59 ∷ []) ++ encode_upper (n ∷ [])) ++ encode_upper (word number)) ++ encode_upper bytes) ++ encode_upper (word s) =
    rw (hf, he, hd, hc, hb, sum_same) refl in
    ap (λ (t : List ℕ). t ++ 13 ∷ 10 ∷ []) whole
    ∙ regroup a (59 ∷ []) (encode_upper (n ∷ [])) (encode_upper (word number)) (encode_upper bytes) (encode_upper (word s)) (13 ∷ 10 ∷ [])
    ∙ ap (λ (t : List ℕ). a ++ (59 ∷ (t ++ 13 ∷ 10 ∷ []))) digits

-- the last part is appended
pub ended : {E : Type 0} (r : Result Unit E) (f g t : List ℕ) → g ≡ (if is_ok r then f ++ 13 ∷ 10 ∷ [] else f) → f ++ 13 ∷ 10 ∷ [] ≡ t → IfOk r (λ _. g ≡ t)
ended (Err e) f g t h k = tt
ended (Ok u) f g t h k = h ∙ k

-- no piece is left
pub text_done : (cells : List (Option ℕ)) (out new : List ℕ) (from count : ℕ) → IsNext cells from None
    → out ++ flat_map data_line (cuts from 0 (drop from cells)) ≡ flat_map data_line (cuts 0 0 cells)
    → count + length (cuts from 0 (drop from cells)) ≡ length (cuts 0 0 cells)
    → new ≡ out ++ end_line count → new ≡ tape_text cells
text_done cells out new from count none text number e =
    let all : out ≡ flat_map data_line (cuts 0 0 cells) = sym (append-nil out)
    ∙ ap (λ (ps : List (ℕ × List ℕ)). out ++ flat_map data_line ps) (sym none) ∙ text in
    let every : count ≡ length (cuts 0 0 cells) = omega (arith, number, ap length none) in
    e ∙ ap (λ (t : List ℕ). t ++ end_line count) all ∙ ap (λ (k : ℕ). flat_map data_line (cuts 0 0 cells) ++ end_line k) every ∙ ap cut_text (cuts_pieces cells)
