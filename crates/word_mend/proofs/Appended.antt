-- The parts of a mended tape, as they are appended.
use Rattle.std.proofs.Common.{◌≡◌, ℕ, zero, suc, ◌+◌, ◌/◌, ◌%◌, ◌<◌, ◌≤◌, cond, is_ok, true, false, List, [], ◌∷◌, ◌++◌, length, drop, slice_index, Result, Ok, Err, refl, sym, ap, ◌∙◌, arith, append_assoc, add-one, drop-cons}
use Rattle.std.specs.Prelude.{IfOk}
use Rattle.std.proofs.lemmas.List.{append-nil}
use Rattle.hex.specs.Hex.{encode_with, encode_upper}
use Rattle.model.specs.TapeText.{end_line}
use Rattle.word_mend.specs.Mending.{is_at_end, with_line_ends}

-- a byte, and the line end after it
cut : (bytes : List ℕ) (i : ℕ) → i < length bytes → drop i bytes ≡ slice_index bytes i ∷ drop (i + 1) bytes
cut bytes i h = rw (add-one, drop-cons bytes i 0) refl

pub at_end : (bytes out one more whole : List ℕ) (i : ℕ) → i < length bytes → is_at_end (drop (i + 1) bytes) ≡ true
    → one ≡ out ++ slice_index bytes i ∷ [] → more ≡ one ++ 13 ∷ 10 ∷ []
    → out ++ with_line_ends (drop i bytes) ≡ whole → more ++ with_line_ends (drop (i + 1) bytes) ≡ whole
unfolding with_line_ends
at_end bytes out one more whole i h ends pushed ended so_far =
    let b = slice_index bytes i in
    let rest = with_line_ends (drop (i + 1) bytes) in
    let step : with_line_ends (drop i bytes) ≡ b ∷ 13 ∷ 10 ∷ rest = rw (cut bytes i h, ends) refl in
    rw (ended, pushed) (append_assoc (out ++ b ∷ []) (13 ∷ 10 ∷ []) rest ∙ append_assoc out (b ∷ []) (13 ∷ 10 ∷ rest)
    ∙ ap (λ (t : List ℕ). out ++ t) (sym step) ∙ so_far)

pub within : (bytes out one whole : List ℕ) (i : ℕ) → i < length bytes → is_at_end (drop (i + 1) bytes) ≡ false → one ≡ out ++ slice_index bytes i ∷ []
    → out ++ with_line_ends (drop i bytes) ≡ whole → one ++ with_line_ends (drop (i + 1) bytes) ≡ whole
unfolding with_line_ends
within bytes out one whole i h ends pushed so_far =
    let b = slice_index bytes i in
    let rest = with_line_ends (drop (i + 1) bytes) in
    let step : with_line_ends (drop i bytes) ≡ b ∷ rest = rw (cut bytes i h, ends) refl in
    rw pushed (append_assoc out (b ∷ []) rest ∙ ap (λ (t : List ℕ). out ++ t) (sym step) ∙ so_far)

none_left : (bytes : List ℕ) (i : ℕ) → length bytes ≤ i → drop i bytes ≡ []
none_left [] zero h = refl
none_left [] (suc i) h = refl
none_left (b ∷ bytes) zero h = absurd (omega (arith, h))
none_left (b ∷ bytes) (suc i) h = none_left bytes i (omega (arith, h))

pub all_put : (bytes out whole : List ℕ) (i : ℕ) → length bytes ≤ i → out ++ with_line_ends (drop i bytes) ≡ whole → out ≡ whole
unfolding with_line_ends
all_put bytes out whole i h so_far =
    sym (append-nil out) ∙ ap (λ (t : List ℕ). out ++ with_line_ends t) (sym (none_left bytes i h)) ∙ so_far

-- the end record
regroup : (a b c d e f g t : List ℕ) → ((((((a ++ b) ++ c) ++ d) ++ e) ++ f) ++ g) ++ t ≡ a ++ (b ++ (c ++ (d ++ (e ++ (f ++ (g ++ t))))))
regroup a b c d e f g t = simp append_assoc refl

pub end_text : {E : Type 0} (r : Result Unit E) (n s : ℕ) (a b c d e f g h : List ℕ) → s ≡ n / 256 + n % 256 → n < 65536 → b ≡ a ++ 59 ∷ []
    → c ≡ b ++ encode_upper (0 ∷ []) → d ≡ c ++ encode_upper (n / 256 ∷ [])
    → e ≡ d ++ encode_upper (n % 256 ∷ []) → f ≡ e ++ encode_upper (s / 256 ∷ []) → g ≡ f ++ encode_upper (s % 256 ∷ [])
    → h ≡ cond (is_ok r) (g ++ 13 ∷ 10 ∷ []) g → IfOk r (λ _. h ≡ a ++ end_line n)
unfolding encode_with
end_text (Err x) n s a b c d e f g h sum_is small hb hc hd he hf hg hh = tt
end_text (Ok u) n s a b c d e f g h sum_is small hb hc hd he hf hg hh =
    let same : s ≡ (0 + n / 256 + n % 256) % 65536 = omega (arith, sum_is, small) in
    rw (hh, hg, hf, he, hd, hc, hb)
    (regroup a (59 ∷ []) (encode_upper (0 ∷ [])) (encode_upper (n / 256 ∷ [])) (encode_upper (n % 256 ∷ [])) (encode_upper (s / 256 ∷ []))
    (encode_upper (s % 256 ∷ [])) (13 ∷ 10 ∷ [])
    ∙ rw same refl)
