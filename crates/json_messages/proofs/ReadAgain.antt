-- A message that is written is read again.
use Rattle.std.proofs.Common.{◌≡◌, ◌≢◌, ◌∙◌, ℕ, ◌+◌, ◌-◌, ◌*◌, ◌^◌, ◌<◌, ◌≤◌, ◌==◌, ◌&&◌, not, nat_lt, Bool, true, false, List, [], ◌∷◌, ◌++◌, length, take, drop, refl, sym, ap, subst, arith, ne_eqb, append_assoc, length-append, Some, decimal}
use Rattle.std.proofs.Math.Seq.{drop-append_seam, take-append_seam}
use Rattle.std.proofs.lemmas.Bool.{le-ltb}
use Rattle.std.proofs.lemmas.Fmt.{decimal_nonempty, digits_decimal, digits_value-decimal, length-decimal-le}
use Rattle.std.proofs.lemmas.Str.Parse.{FoldsDigits, IsNumeralModel, numerals_by_fold, tells_digits}
use Rattle.std.specs.Str.Parse.{AllDigits}
use Rattle.std.specs.Int.{IsInRange}
use Rattle.std.specs.List.{prefix_len}
use Rattle.std.specs.Prelude.{◌||◌}
use Rattle.json_messages.specs.Messages.{IsFront, ReadsAgain, begins_field, blank_line, ends_header, framed, front_of, header_from, header_len, is_blank, is_digit, length_field, length_in, most_body, number_from, number_in, skip, with_digit}
use Rattle.json_messages.specs.declared.front.Front.TheVariants.{Message}

-- ---- the number

-- The digits of a number, behind those of another.
fold : ℕ → List ℕ → ℕ
fold k [] = k
fold k (c ∷ cs) = fold (k * 10 + (c - 48)) cs

folds : FoldsDigits fold
unfolding fold
folds = record { empty = λ n. refl; more = λ n c cs h. refl }

model : IsNumeralModel (AllDigits 10) (fold 0)
model = numerals_by_fold (AllDigits 10) tells_digits fold folds

fold_none : (k : ℕ) → fold k [] ≡ k
unfolding fold
fold_none k = refl

fold_more : (k c : ℕ) (cs : List ℕ) → fold k (c ∷ cs) ≡ fold (k * 10 + (c - 48)) cs
unfolding fold
fold_more k c cs = refl

fold_grows : (k : ℕ) (cs : List ℕ) → k ≤ fold k cs
fold_grows k [] = let e = fold_none k in omega arith
fold_grows k (c ∷ cs) = let e = fold_more k c cs in let h = fold_grows (k * 10 + (c - 48)) cs in omega arith

digit_taken : (k c : ℕ) → IsInRange 48 57 c → k * 10 + (c - 48) ≤ most_body → with_digit k c ≡ Some (k * 10 + (c - 48))
unfolding with_digit
digit_taken k c h fits = grind arith

number_none : (n : ℕ) → number_from n [] ≡ Some n
unfolding number_from
number_none n = refl

number_more : (k c : ℕ) (cs : List ℕ) → IsInRange 48 57 c → k * 10 + (c - 48) ≤ most_body → number_from k (c ∷ cs) ≡ number_from (k * 10 + (c - 48)) cs
unfolding number_from
number_more k c cs h fits =
    let other : c ≢ 13 = λ e. omega (arith, e, h) in
    let t : (c == 13) ≡ false = ne_eqb c 13 other in
    let d : with_digit k c ≡ Some (k * 10 + (c - 48)) = digit_taken k c h fits in
    rw (t, d) refl

number_read : (k : ℕ) (ds : List ℕ) → AllDigits 10 ds → fold k ds ≤ most_body → number_from k ds ≡ Some (fold k ds)
number_read k [] a h = number_none k ∙ ap Some (sym (fold_none k))
number_read k (c ∷ cs) a h =
    let parts = tells_digits.parts c cs a in
    let e : fold k (c ∷ cs) ≡ fold (k * 10 + (c - 48)) cs = fold_more k c cs in
    let up : k * 10 + (c - 48) ≤ fold (k * 10 + (c - 48)) cs = fold_grows (k * 10 + (c - 48)) cs in
    let fits : fold (k * 10 + (c - 48)) cs ≤ most_body = omega arith in
    let one : k * 10 + (c - 48) ≤ most_body = omega arith in
    number_more k c cs parts.0 one ∙ (number_read (k * 10 + (c - 48)) cs parts.1 fits ∙ ap Some (sym e))

first_read : (ds : List ℕ) → AllDigits 10 ds → 0 < length ds → fold 0 ds ≤ most_body → number_in ds ≡ Some (fold 0 ds)
first_read [] a some h = absurd (omega arith)
first_read (c ∷ cs) a some h =
    let parts = tells_digits.parts c cs a in
    let d : is_digit c ≡ true = grind arith in
    rw d (number_read 0 (c ∷ cs) a h)

-- ---- the header

-- No CR stands among some bytes.
no_cr : List ℕ → Bool
no_cr [] = true
no_cr (x ∷ xs) = not (x == 13) && no_cr xs

no_end : (x : ℕ) (xs : List ℕ) → (x == 13) ≡ false → ends_header (x ∷ xs) ≡ false
unfolding ends_header
no_end x xs h = grind arith

header_next : (k x : ℕ) (xs : List ℕ) → (x == 13) ≡ false → header_from k (x ∷ xs) ≡ header_from (k + 1) xs
unfolding header_from
header_next k x xs h = rw (no_end x xs h) refl

header_here : (k : ℕ) (xs : List ℕ) → header_from k (blank_line ++ xs) ≡ Some k
unfolding header_from ends_header
header_here k xs = refl

no_cr_first : (x : ℕ) (xs : List ℕ) → no_cr (x ∷ xs) ≡ true → (x == 13) ≡ false
unfolding no_cr
no_cr_first x xs h = grind arith

no_cr_rest : (x : ℕ) (xs : List ℕ) → no_cr (x ∷ xs) ≡ true → no_cr xs ≡ true
unfolding no_cr
no_cr_rest x xs h = grind arith

header_over : (k : ℕ) (xs ys : List ℕ) → no_cr xs ≡ true → header_from k (xs ++ ys) ≡ header_from (k + length xs) ys
header_over k [] ys h = ap (λ n. header_from n ys) (omega arith)
header_over k (x ∷ xs) ys h =
    header_next k x (xs ++ ys) (no_cr_first x xs h) ∙ (header_over (k + 1) xs ys (no_cr_rest x xs h) ∙ ap (λ n. header_from n ys) (omega arith))

digits_no_cr : (ds : List ℕ) → AllDigits 10 ds → no_cr ds ≡ true
unfolding no_cr
digits_no_cr [] a = refl
digits_no_cr (c ∷ cs) a =
    let parts = tells_digits.parts c cs a in
    let other : c ≢ 13 = λ e. omega (arith, e, parts.0) in
    let t : (c == 13) ≡ false = ne_eqb c 13 other in
    rw (t, digits_no_cr cs parts.1) refl

field_no_cr : (ds : List ℕ) → no_cr ds ≡ true → no_cr (length_field ++ ds) ≡ true
unfolding no_cr
field_no_cr ds h = h

no_blank : (c : ℕ) → IsInRange 48 57 c → is_blank c ≡ false
no_blank c h =
    let s : (c == 32) ≡ false = ne_eqb c 32 (λ e. omega (arith, e, h)) in
    let t : (c == 9) ≡ false = ne_eqb c 9 (λ e. omega (arith, e, h)) in
    λ i. s i || t i

-- No blank stands before digits, and one before them is skipped.
no_blanks : (ds : List ℕ) → AllDigits 10 ds → prefix_len is_blank ds ≡ 0
no_blanks [] a = refl
no_blanks (c ∷ cs) a = let none : is_blank c ≡ false = no_blank c (tells_digits.parts c cs a).0 in rw none refl

one_skipped : (ds : List ℕ) → prefix_len is_blank ds ≡ 0 → skip (32 ∷ ds) ≡ ds
one_skipped ds none = let one : prefix_len is_blank (32 ∷ ds) ≡ 1 = ap (λ n. 1 + n) none in ap (λ n. drop n (32 ∷ ds)) one

field_value : (ds : List ℕ) → length_in true (length_field ++ ds) ≡ number_in (skip (32 ∷ ds))
unfolding length_in begins_field
field_value ds = refl

field_read : (ds : List ℕ) → AllDigits 10 ds → length_in true (length_field ++ ds) ≡ number_in ds
field_read ds a = field_value ds ∙ ap number_in (one_skipped ds (no_blanks ds a))

-- ---- the front

pub front_at : (all : List ℕ) (h n : ℕ) → header_len all ≡ Some h → length_in true (take h all) ≡ Some n → h ≤ 4096 → h + 4 + n ≤ length all
    → front_of all ≡ Message (h + 4) (h + 4 + n)
front_at all h n e l small long =
    let t : nat_lt 4096 h ≡ false = le-ltb 4096 h small in
    let u : nat_lt (length all) (h + 4 + n) ≡ false = le-ltb (length all) (h + 4 + n) long in
    rw (e, t, l, u) refl

-- A header of so many bytes, its blank line, a body and what is behind it.
front_here : (head body rest : List ℕ) → no_cr head ≡ true → length_in true head ≡ Some (length body) → length head ≤ 4096
    → IsFront (head ++ (blank_line ++ (body ++ rest))) body rest
front_here head body rest clean gives small =
    let all = head ++ (blank_line ++ (body ++ rest)) in
    let h = length head in
    let n = length body in
    let e : header_len all ≡ Some h = header_over 0 head (blank_line ++ (body ++ rest)) clean ∙ (header_here (0 + h) (body ++ rest) ∙ ap Some (omega arith)) in
    let t : take h all ≡ head = take-append_seam head (blank_line ++ (body ++ rest)) in
    let l : length_in true (take h all) ≡ Some n = ap (length_in true) t ∙ gives in
    let e1 = length-append head (blank_line ++ (body ++ rest)) in
    let e2 = length-append blank_line (body ++ rest) in
    let e3 = length-append body rest in
    let long : h + 4 + n ≤ length all = omega (arith, e1, e2, e3) in
    let front : (head ++ blank_line) ++ (body ++ rest) ≡ all = append_assoc head blank_line (body ++ rest) in
    let before : length (head ++ blank_line) ≡ h + 4 = length-append head blank_line in
    let d : drop (h + 4) all ≡ body ++ rest = subst (λ k. drop k all ≡ body ++ rest) before
    (subst (λ z. drop (length (head ++ blank_line)) z ≡ body ++ rest) front (drop-append_seam (head ++ blank_line) (body ++ rest))) in
    let whole : ((head ++ blank_line) ++ body) ++ rest ≡ all = append_assoc (head ++ blank_line) body rest ∙ front in
    let count : length ((head ++ blank_line) ++ body) ≡ h + 4 + n = length-append (head ++ blank_line) body ∙ ap (λ k. k + n) before in
    let r : drop (h + 4 + n) all ≡ rest = subst (λ k. drop k all ≡ rest) count
    (subst (λ z. drop (length ((head ++ blank_line) ++ body)) z ≡ rest) whole (drop-append_seam ((head ++ blank_line) ++ body) rest)) in
    let k : (h + 4 + n) - (h + 4) ≡ n = omega arith in
    let b : take ((h + 4 + n) - (h + 4)) (drop (h + 4) all) ≡ body = rw (k, d) (take-append_seam body rest) in
    (h + 4, h + 4 + n, front_at all h n e l small long, sym b, sym r)

pub reads_again : ReadsAgain
reads_again body rest fits =
    let n = length body in
    let small : n < 2 ^ 64 = omega arith in
    let ds = decimal n in
    let a : AllDigits 10 ds = digits_decimal model n small in
    let v : fold 0 ds ≡ n = digits_value-decimal model n small in
    let some : 0 < length ds = decimal_nonempty n small in
    let within : fold 0 ds ≤ most_body = omega arith in
    let short : length ds ≤ 8 = length-decimal-le 8 n (omega arith) (omega arith) small in
    let head = length_field ++ ds in
    let gives : length_in true head ≡ Some n = field_read ds a ∙ (first_read ds a some within ∙ ap Some v) in
    let clean : no_cr head ≡ true = field_no_cr ds (digits_no_cr ds a) in
    let len : length head ≤ 4096 = grind arith in
    let front = front_here head body rest clean gives len in
    let e : head ++ (blank_line ++ (body ++ rest)) ≡ framed body ++ rest = grind (arith, append_assoc) in
    subst (λ z. IsFront z body rest) e front
