-- The way along the bytes of a line where a word is looked for, and along the lines of a source.
use Rattle.std.proofs.Common.{◌≡◌, ◌∙◌, ◌-◌, ◌+◌, ◌<◌, ◌≤◌, ◌&&◌, ◌||◌, not, ℕ, Bool, true, false, if◌then◌else◌, List, [], ◌∷◌, length, length-drop, get_or, take, drop, refl, sym, ap, add-one, arith, drop-cons, None, Some, Option}
use Rattle.std.proofs.lemmas.Grind.{common_steps}
use Rattle.std.proofs.lemmas.List.{nil_from_length, take_all}
use Rattle.std.specs.Str.{bytes_eq}
use Rattle.model.specs.AllFaults.{word_at}
use Rattle.model.specs.Source.{is_end, read_lines, up_to_end}
use Rattle.model.specs.SourceLine.{read_line}
use Rattle.model.specs.TextLines.{lines_from, lines_of}
use Rattle.model.specs.Token.{is_word_byte}
use Rattle.model.specs.declared.instruction.Profile.{Profile}
use Rattle.name_uses.specs.Faulty.{faulty_from, faulty_line, has_word, is_faulty}

-- ---- bytes

-- what stands from an index on, as a slice has it
tail : (line : List ℕ) (i : ℕ) → take (length line - i) (drop i line) ≡ drop i line
tail line i = take_all (length line - i) (drop i line) (omega (arith, length-drop i line))

word_behind : (word : List ℕ) (behind : Bool) (b : ℕ) (bs : List ℕ)
    → has_word word behind (b ∷ bs) ≡ ((not behind && bytes_eq (word_at (b ∷ bs)) word) || has_word word (is_word_byte b) bs)
unfolding has_word
word_behind word behind b bs = refl

word_none : (word : List ℕ) (behind : Bool) → has_word word behind [] ≡ false
unfolding has_word
word_none word behind = refl

word_at_index : (word line : List ℕ) (i : ℕ) (behind : Bool) → i < length line
    → has_word word behind (drop i line) ≡ ((not behind && bytes_eq (word_at (drop i line)) word)
    || has_word word (is_word_byte (get_or line i 0)) (drop (i + 1) line))
word_at_index word line i behind within =
    let cut : drop i line ≡ get_or line i 0 ∷ drop (i + 1) line = rw add-one (drop-cons line i 0 within) in
    rw cut (word_behind word behind (get_or line i 0) (drop (i + 1) line))

pub word_found : (word line : List ℕ) (i : ℕ) (behind : Bool) → i < length line
    → (not behind && bytes_eq (word_at (take (length line - i) (drop i line))) word) ≡ true
    → has_word word behind (drop i line) ≡ true
word_found word line i behind within is =
    let here : (not behind && bytes_eq (word_at (drop i line)) word) ≡ true = rw (tail line i) at is in
    rw (word_at_index word line i behind within, here) refl

pub word_step : (word line : List ℕ) (i : ℕ) (behind : Bool) → i < length line
    → (not behind && bytes_eq (word_at (take (length line - i) (drop i line))) word) ≡ false
    → has_word word behind (drop i line) ≡ has_word word (is_word_byte (get_or line i 0)) (drop (i + 1) line)
word_step word line i behind within is =
    let here : (not behind && bytes_eq (word_at (drop i line)) word) ≡ false = rw (tail line i) at is in
    rw (word_at_index word line i behind within, here) refl

pub word_end : (word line : List ℕ) (i : ℕ) (behind : Bool) → length line ≤ i → has_word word behind (drop i line) ≡ false
word_end word line i behind past = let cut : drop i line ≡ [] = grind (arith, common_steps) in rw cut (word_none word behind)

-- ---- lines

-- the lines that are still to be read
abbrev pub faulty_left : Profile → List ℕ → List ℕ → ℕ → List ℕ → Option ℕ
faulty_left profile word other number rest = faulty_from profile word other number (up_to_end profile (lines_of rest))

pub starts : (profile : Profile) (source word other : List ℕ) → faulty_left profile word other 1 source ≡ faulty_line profile source word other
unfolding faulty_line read_lines
starts profile source word other = refl

-- a line that has a fault and a word
pub line_faulty : (profile : Profile) (word other : List ℕ) (number : ℕ) (rest text behind : List ℕ) (whole : Option ℕ) → lines_of rest ≡ text ∷ lines_of behind
    → is_faulty profile word other text ≡ true → faulty_left profile word other number rest ≡ whole → Some number ≡ whole
unfolding faulty_from
line_faulty profile word other number rest text behind whole cut is so_far =
    let at : faulty_left profile word other number rest ≡ Some number = rw (cut, is) refl in
    sym at ∙ so_far

-- a line that others follow
pub line_more : (profile : Profile) (word other : List ℕ) (number : ℕ) (rest text behind : List ℕ) (whole : Option ℕ) → lines_of rest ≡ text ∷ lines_of behind
    → is_faulty profile word other text ≡ false → is_end (read_line profile text) ≡ false → faulty_left profile word other number rest ≡ whole
    → faulty_left profile word other (number + 1) behind ≡ whole
unfolding faulty_from
line_more profile word other number rest text behind whole cut is more so_far =
    let at : faulty_left profile word other number rest ≡ faulty_left profile word other (number + 1) behind = rw (cut, more, is) refl in
    sym at ∙ so_far

-- the line of `.END`
pub line_last : (profile : Profile) (word other : List ℕ) (number : ℕ) (rest text behind : List ℕ) (whole : Option ℕ) → lines_of rest ≡ text ∷ lines_of behind
    → is_faulty profile word other text ≡ false → is_end (read_line profile text) ≡ true → faulty_left profile word other number rest ≡ whole → None ≡ whole
unfolding faulty_from
line_last profile word other number rest text behind whole cut is last so_far =
    let at : faulty_left profile word other number rest ≡ None = rw (cut, last, is) refl in
    sym at ∙ so_far

no_lines : (text : List ℕ) → length text ≡ 0 → lines_of text ≡ []
unfolding lines_from
no_lines text empty = rw (nil_from_length text empty) refl

pub lines_done : (profile : Profile) (word other : List ℕ) (number : ℕ) (rest : List ℕ) (whole : Option ℕ) → length rest ≡ 0
    → faulty_left profile word other number rest ≡ whole → None ≡ whole
unfolding faulty_from
lines_done profile word other number rest whole empty so_far =
    let none : faulty_left profile word other number rest ≡ None = rw (no_lines rest empty) refl in
    sym none ∙ so_far
