-- The words of a line, from its front.
use Rattle.std.proofs.Common.{subst, ◌≡◌, ◌≢◌, ℕ, ◌+◌, ◌-◌, ◌<◌, ◌≤◌, Bool, true, false, eqb, List, [], ◌∷◌, ◌++◌, refl, sym, ap, ◌∙◌, take, drop, length, get_or, arith, drop-cons, add-one, true≢false, take-append-drop, inl, inr, ◌&&◌, length-drop, length-take, drop-drop, ◌⊎◌}
use Rattle.std.proofs.lemmas.List.{take_all, drop_all, take_more, get_or-drop}
use Rattle.std.proofs.lemmas.List.Folds.{list_all-append}
use Rattle.std.proofs.lemmas.Bool.Decides.{eqb_tells}
use Rattle.std.specs.List.{list_all}
use Rattle.model.specs.Commands.{words_of, with_byte_before, goes_on, without_spaces, after_word, rest_of}
use Rattle.commands.specs.Words.{no_space, IsNextWord}

-- ---- spaces in front

-- a space in front is left out
pub skip_space : (line : List ℕ) (i : ℕ) → i < length line → get_or line i 0 ≡ 32 → without_spaces (drop (i + 1) line) ≡ without_spaces (drop i line)
skip_space line i h e = rw (drop-cons line i 0, e, add-one) refl

unspaced_byte : (b : ℕ) (bs : List ℕ) → b ≢ 32 → without_spaces (b ∷ bs) ≡ b ∷ bs
unspaced_byte b bs ne = elim (eqb_tells b 32) [
  | inl e ↦ absurd (ne e.1)
  | inr e ↦ rw e.0 refl
]

-- what begins with another byte, or is empty, stays
pub front_stays : (line : List ℕ) (i : ℕ) → ((i < length line) × (get_or line i 0 ≢ 32)) ⊎ (length line ≤ i) → without_spaces (drop i line) ≡ drop i line
front_stays line i (inl h) = let within : i < length line = h.0 in rw (drop-cons line i 0) (unspaced_byte _ _ h.1)
front_stays line i (inr h) = rw (drop_all i line h) refl

-- the words are the same
words_unspaced : (line : List ℕ) → words_of (without_spaces line) ≡ words_of line
words_unspaced [] = refl
words_unspaced (b ∷ bs) = elim (eqb_tells b 32) [
  | inl e ↦ rw e.0 (words_unspaced bs)
  | inr e ↦ rw (e.0, e.0) refl
]

-- and no space is in front of them
front_starts : (line : List ℕ) → (length (without_spaces line) ≡ 0) ⊎ (get_or (without_spaces line) 0 0 ≢ 32)
front_starts [] = inl refl
front_starts (b ∷ bs) = elim (eqb_tells b 32) [
  | inl e ↦ rw e.0 (front_starts bs)
  | inr e ↦ rw e.0 (inr e.1)
]

-- ---- what stands after a word

after_byte : (b : ℕ) (bs : List ℕ) → b ≢ 32 → after_word (b ∷ bs) ≡ after_word bs
after_byte b bs ne = elim (eqb_tells b 32) [
  | inl e ↦ absurd (ne e.1)
  | inr e ↦ rw e.0 refl
]

pub after_more : (line : List ℕ) (i : ℕ) → i < length line → get_or line i 0 ≢ 32 → after_word (drop (i + 1) line) ≡ after_word (drop i line)
after_more line i h ne = rw (drop-cons line i 0, add-one) (sym (after_byte _ _ ne))

pub after_ends : (line : List ℕ) (i : ℕ) → ((i < length line) × (get_or line i 0 ≡ 32)) ⊎ (length line ≤ i) → after_word (drop i line) ≡ drop i line
after_ends line i (inl h) = let within : i < length line = h.0 in rw (drop-cons line i 0, h.1) refl
after_ends line i (inr h) = rw (drop_all i line h) refl

-- ---- words

other : (b : ℕ) → b ≢ 32 → no_space b ≡ true
other b ne = elim (eqb_tells b 32) [
  | inl e ↦ absurd (ne e.1)
  | inr e ↦ rw e.0 refl
]

pub all_more : (line : List ℕ) (n : ℕ) → n < length line → get_or line n 0 ≢ 32 → list_all no_space (take n line) ≡ true
    → list_all no_space (take (n + 1) line) ≡ true
all_more line n h ne all =
    let test : no_space (get_or line n 0) ≡ true = other _ ne in
    rw (take_more line n 0 h, list_all-append) (rw (all, test) refl)

both : (x y : Bool) → (x && y) ≡ true → (x ≡ true) × (y ≡ true)
both true y h = (refl, h)
both false y h = absurd (true≢false (sym h))

plain_byte : (b : ℕ) → no_space b ≡ true → eqb b 32 ≡ false
plain_byte b h = elim (eqb_tells b 32) [
  | inl e ↦ (let bad : false ≡ true = rw e.0 at h in absurd (true≢false (sym bad)))
  | inr e ↦ e.0
]

words_byte : (b : ℕ) (bs : List ℕ) → eqb b 32 ≡ false → words_of (b ∷ bs) ≡ with_byte_before b (goes_on bs) (words_of bs)
words_byte b bs e = rw e refl

goes_byte : (b : ℕ) (bs : List ℕ) → eqb b 32 ≡ false → goes_on (b ∷ bs) ≡ true
goes_byte b bs e = rw e refl

-- a word that no further byte belongs to
word_first : (b : ℕ) (w rest : List ℕ) → list_all no_space (b ∷ w) ≡ true → goes_on rest ≡ false → words_of ((b ∷ w) ++ rest) ≡ (b ∷ w) ∷ words_of rest
word_first b [] rest all ends = let e = plain_byte b (both (no_space b) _ all).0 in words_byte b rest e ∙ ap (λ g. with_byte_before b g (words_of rest)) ends
word_first b (d ∷ w) rest all ends =
    let parts = both (no_space b) (list_all no_space (d ∷ w)) all in
    let e = plain_byte b parts.0 in
    let f = plain_byte d (both (no_space d) _ parts.1).0 in
    words_byte b ((d ∷ w) ++ rest) e ∙ ap (λ g. with_byte_before b g (words_of ((d ∷ w) ++ rest))) (goes_byte d (w ++ rest) f)
    ∙ ap (λ ws. with_byte_before b true ws) (word_first d w rest parts.1 ends)

pub next_word : (w rest : List ℕ) → list_all no_space w ≡ true → goes_on rest ≡ false → (w ≡ [] → words_of rest ≡ []) → IsNextWord (w ++ rest) w rest
next_word [] rest all ends none = (none refl, none refl)
next_word (b ∷ w) rest all ends none = word_first b w rest all ends

goes_space : (line : List ℕ) (e : ℕ) → e < length line → get_or line e 0 ≡ 32 → goes_on (drop e line) ≡ false
goes_space line e h at = rw (drop-cons line e 0, at) refl

goes_end : (line : List ℕ) (e : ℕ) → length line ≤ e → goes_on (drop e line) ≡ false
goes_end line e h = rw (drop_all e line h) refl

words_end : (line : List ℕ) (e : ℕ) → length line ≤ e → words_of (drop e line) ≡ []
words_end line e h = rw (drop_all e line h) refl

-- what the loop ends with: a space or the line's end after the word
ends_by : (line : List ℕ) (e : ℕ) → ((e < length line) × (get_or line e 0 ≡ 32)) ⊎ (length line ≤ e) → goes_on (drop e line) ≡ false
ends_by line e (inl h) = goes_space line e h.0 h.1
ends_by line e (inr h) = goes_end line e h

-- where there is no word, there is nothing
none_by : (line : List ℕ) (e : ℕ) → (length line ≡ 0) ⊎ (get_or line 0 0 ≢ 32) → ((e < length line) × (get_or line e 0 ≡ 32)) ⊎ (length line ≤ e)
    → e ≡ 0 → words_of (drop e line) ≡ []
none_by line e starts (inr h) same = words_end line e h
none_by line e (inl none) (inl h) same = absurd (omega (arith, h.0))
none_by line e (inr some) (inl h) same = absurd (some (ap (λ n. get_or line n 0) (sym same) ∙ h.1))

of_line : (a b w rest : List ℕ) → words_of a ≡ words_of b → IsNextWord a w rest → IsNextWord b w rest
of_line a b [] rest e h = (sym e ∙ h.0, h.1)
of_line a b (x ∷ w) rest e h = sym e ∙ h

pub found_word : (line front : List ℕ) (e : ℕ) → front ≡ without_spaces line → e ≤ length front → list_all no_space (take e front) ≡ true
    → ((e < length front) × (get_or front e 0 ≡ 32)) ⊎ (length front ≤ e) → IsNextWord line (take e front) (drop e front)
found_word line front e is within all last =
    let long : length (take e front) ≡ e = omega (arith, length-take e front) in
    let starts : (length front ≡ 0) ⊎ (get_or front 0 0 ≢ 32) = subst (λ f. (length f ≡ 0) ⊎ (get_or f 0 0 ≢ 32)) (sym is) (front_starts line) in
    of_line front line (take e front) (drop e front) (ap words_of is ∙ words_unspaced line)
    (subst (λ l. IsNextWord l (take e front) (drop e front)) (take-append-drop e front)
    (next_word (take e front) (drop e front) all (ends_by front e last)
    (λ empty. none_by front e starts last (let z : length (take e front) ≡ 0 = ap length empty in omega arith))))

-- the whole rest
pub rest_all : (line : List ℕ) (i : ℕ) → take (length line - i) (drop i line) ≡ drop i line
rest_all line i = take_all (length line - i) (drop i line) (omega (arith, length-drop i line))
