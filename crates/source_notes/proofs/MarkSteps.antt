-- The way along the bytes of a line, and of those under which a mark stands.
use Rattle.std.proofs.Common.{◌≡◌, ◌∙◌, ℕ, zero, suc, ◌+◌, ◌-◌, ◌<◌, ◌≤◌, List, [], ◌∷◌, ◌++◌, length, drop, take, replicate, refl, sym, ap, arith, append_assoc, append-nil, drop-drop, get_or}
use Rattle.std.proofs.lemmas.List.{drop_all, take_all}
use Rattle.source_notes.specs.Shown.{blank_under, blanks_under, left_after, shown_byte, shown_from}

cut_at : (at : ℕ) (line : List ℕ) → at < length line → drop at line ≡ get_or (drop at line) 0 0 ∷ drop 1 (drop at line)
cut_at zero [] within = absurd (omega (arith, within))
cut_at zero (b ∷ line) within = refl
cut_at (suc at) [] within = absurd (omega (arith, within))
cut_at (suc at) (b ∷ line) within = let less : at < length line = omega (arith, within) in cut_at at line less

drop_one : (at : ℕ) (line : List ℕ) → drop 1 (drop at line) ≡ drop (at + 1) line
drop_one at line = drop-drop 1 at line

-- one byte of a line opened
opened : (left one : ℕ) (rest line : List ℕ) → line ≡ one ∷ rest → shown_from left line ≡ shown_byte left one rest ∷ shown_from (left_after left line) rest
unfolding shown_from
opened left one rest line cut = ap (λ l. shown_from left l) cut ∙ ap (λ l. shown_byte left one rest ∷ shown_from (left_after left l) rest) (sym cut)

rest_length : (at : ℕ) (line : List ℕ) → length (drop at line) ≤ length line - at
rest_length zero line = omega arith
rest_length (suc at) [] = omega arith
rest_length (suc at) (b ∷ line) = let shorter : length (drop at line) ≤ length line - at = rest_length at line in omega (arith, shorter)

-- a slice up to the end
pub rest_is : (at : ℕ) (line : List ℕ) → take (length line - at) (drop at line) ≡ drop at line
rest_is at line = take_all (length line - at) (drop at line) (rest_length at line)

-- one byte more
pub shown_more : (left next byte at : ℕ) (line bytes old new : List ℕ) → at < length line → bytes ≡ drop at line → next ≡ left_after left bytes
    → byte ≡ shown_byte left (get_or bytes 0 0) (drop 1 bytes) → new ≡ old ++ byte ∷ []
    → new ++ shown_from next (drop (at + 1) line) ≡ old ++ shown_from left (drop at line)
shown_more left next byte at line bytes old new within same n s e =
    let one : ℕ = get_or (drop at line) 0 0 in
    let rest : List ℕ = drop 1 (drop at line) in
    ap (λ t. t ++ shown_from next (drop (at + 1) line)) e
    ∙ (append_assoc old (byte ∷ []) (shown_from next (drop (at + 1) line))
    ∙ (ap (λ k. old ++ byte ∷ shown_from k (drop (at + 1) line)) (n ∙ ap (λ b. left_after left b) same)
    ∙ (ap (λ b. old ++ b ∷ shown_from (left_after left (drop at line)) (drop (at + 1) line)) (s ∙ ap (λ b. shown_byte left (get_or b 0 0) (drop 1 b)) same)
    ∙ (ap (λ r. old ++ shown_byte left one rest ∷ shown_from (left_after left (drop at line)) r) (sym (drop_one at line))
    ∙ sym (ap (λ t. old ++ t) (opened left one rest (drop at line) (cut_at at line within)))))))

nothing_shown : (left : ℕ) → shown_from left [] ≡ []
unfolding shown_from
nothing_shown left = refl

-- none is left
pub shown_end : (left at : ℕ) (line text whole : List ℕ) → length line ≤ at → text ++ shown_from left (drop at line) ≡ whole → text ≡ whole
shown_end left at line text whole past h =
    sym (append-nil text) ∙ (ap (λ t. text ++ t) (sym (nothing_shown left)) ∙ (ap (λ l. text ++ shown_from left l) (sym (drop_all at line past)) ∙ h))

blanks_first : (left n m : ℕ) (bytes : List ℕ) → n ≡ m + 1 → blanks_under left n bytes ≡ blank_under left bytes
    ++ blanks_under (left_after left bytes) m (drop 1 bytes)
unfolding blanks_under
blanks_first left zero m bytes e = absurd (omega (arith, e))
blanks_first left (suc n) m bytes e =
    let same : n ≡ m = omega (arith, e) in
    ap (λ k. blank_under left bytes ++ blanks_under (left_after left bytes) k (drop 1 bytes)) same

pub blanks_more : (left next n m at : ℕ) (line bytes old new : List ℕ) → n ≡ m + 1 → bytes ≡ drop at line → next ≡ left_after left bytes
    → new ≡ old ++ blank_under left bytes
    → new ++ blanks_under next m (drop (at + 1) line) ≡ old ++ blanks_under left n (drop at line)
blanks_more left next n m at line bytes old new e cut after f =
    ap (λ t. t ++ blanks_under next m (drop (at + 1) line)) f
    ∙ (append_assoc old (blank_under left bytes) (blanks_under next m (drop (at + 1) line))
    ∙ (ap (λ k. old ++ (blank_under left bytes ++ blanks_under k m (drop (at + 1) line))) after
    ∙ (ap (λ r. old ++ (blank_under left bytes ++ blanks_under (left_after left bytes) m r)) (sym (drop_one at line))
    ∙ (ap (λ r. old ++ (blank_under left bytes ++ blanks_under (left_after left bytes) m (drop 1 r))) (sym cut)
    ∙ (sym (ap (λ t. old ++ t) (blanks_first left n m bytes e))
    ∙ ap (λ l. old ++ blanks_under left n l) cut)))))

pub blanks_end : (left n : ℕ) (line text whole : List ℕ) → n ≡ 0 → text ++ blanks_under left n line ≡ whole → text ≡ whole
unfolding blanks_under
blanks_end left zero line text whole e h = sym (append-nil text) ∙ h
blanks_end left (suc n) line text whole e h = absurd (omega (arith, e))

pub wave_more : (n m : ℕ) (old new : List ℕ) → n ≡ m + 1 → new ≡ old ++ 126 ∷ []
    → new ++ replicate m 126 ≡ old ++ replicate n 126
wave_more zero m old new e f = absurd (omega (arith, e))
wave_more (suc n) m old new e f =
    let same : n ≡ m = omega (arith, e) in
    ap (λ t. t ++ replicate m 126) f ∙ (append_assoc old (126 ∷ []) (replicate m 126) ∙ sym (ap (λ k. old ++ 126 ∷ replicate k 126) same))

pub wave_end : (n : ℕ) (text whole : List ℕ) → n ≡ 0 → text ++ replicate n 126 ≡ whole → text ≡ whole
wave_end zero text whole e h = sym (append-nil text) ∙ h
wave_end (suc n) text whole e h = absurd (omega (arith, e))
