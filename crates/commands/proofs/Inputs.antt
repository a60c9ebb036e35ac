-- Bytes of input, as they are met word by word.
use Rattle.std.proofs.Common.{◌≡◌, ℕ, zero, suc, ◌+◌, ◌<◌, ◌≤◌, true, false, List, [], ◌∷◌, ◌++◌, length, take, Option, Some, None, refl, sym, ap, ◌∙◌, if◌then◌else◌, codes, arith, append-nil, append_assoc, length-append}
use Rattle.std.specs.Prelude.{nat_lt, slice_set}
use Rattle.std.specs.Str.{bytes_eq}
use Rattle.std.proofs.lemmas.Slice.Eq.{bytes_eq-Decides}
use Rattle.std.proofs.lemmas.Bool.{le-leb, lt-leb}
use Rattle.model.specs.declared.command.Command.{Command}
use Rattle.model.specs.Commands.{address_of, asm_command, is_asm, rest_of, second_word, text_of, without_spaces, byte_of, byte_before, bytes_of_words, input_command, no_input, command_of, command_of_words, words_of}
use Rattle.model.specs.declared.command.Command.TheVariants.{Bad, Input, Nothing}
use Rattle.commands.specs.Words.{IsNextWord}
use Rattle.commands.specs.Groups.{pair_command, triple_command}
use Rattle.commands.proofs.Rows.{pair_row, triple_row}
use Rattle.commands.proofs.Patches.{next}

-- ---- lines that begin with `in`

-- what a line that begins with `asm` asks for
abbrev assembled : List ℕ → List (List ℕ) → Command
assembled line words = asm_command (address_of (second_word words)) (text_of line)

same : (w : List ℕ) → bytes_eq w (codes "in") ≡ true → w ≡ codes "in"
same w e = (bytes_eq-Decides w (codes "in")).0 e

input_words : (a : List ℕ) (ws : List (List ℕ)) → command_of_words (codes "in" ∷ a ∷ ws) ≡ input_command (bytes_of_words (a ∷ ws))
unfolding command_of_words
input_words a ws = refl

-- a line that is short and no `asm` is what its words are
other_line : (line first behind : List ℕ) → nat_lt 255 (length line) ≡ false → IsNextWord line first behind → bytes_eq first (codes "asm") ≡ false
    → command_of line ≡ command_of_words (words_of line)
unfolding command_of
other_line line [] behind short p no_asm = ap (λ t. if t then Bad else if is_asm (words_of line) then assembled line (words_of line) else
    command_of_words (words_of line)) short
    ∙ ap (λ ws. if is_asm ws then assembled line ws else command_of_words ws) p.0 ∙ ap command_of_words (sym p.0)
other_line line (b ∷ w) behind short p no_asm = ap (λ t. if t then Bad else if is_asm (words_of line) then assembled line (words_of line) else
    command_of_words (words_of line)) short
    ∙ ap (λ t. if t then assembled line (words_of line) else command_of_words (words_of line)) (ap is_asm p ∙ no_asm)

no_more : (rest word left : List ℕ) → IsNextWord rest word left → length word ≡ 0 → words_of rest ≡ []
no_more rest [] left p e = p.0
no_more rest (b ∷ w) left p e = absurd (omega (arith, e))

pub empty_line : (line first behind : List ℕ) → nat_lt 255 (length line) ≡ false → IsNextWord line first behind → length first ≡ 0
    → bytes_eq first (codes "asm") ≡ false → Nothing ≡ command_of line
unfolding command_of_words
empty_line line first behind short p none no_asm = sym (other_line line first behind short p no_asm ∙ ap command_of_words (no_more line first behind p none))

pub line_of_two : (line first behind second rest third left : List ℕ) → nat_lt 255 (length line) ≡ false → IsNextWord line first behind
    → (length first ≡ 0 → ⊥) → IsNextWord behind second rest → (length second ≡ 0 → ⊥)
    → IsNextWord rest third left → length third ≡ 0 → bytes_eq first (codes "asm") ≡ false → pair_command first second ≡ command_of line
line_of_two line first behind second rest third left short p some q more r last no_asm =
    let words = next line first behind p some ∙ ap (λ ws. first ∷ ws)
    (next behind second rest q more ∙ ap (λ ws. second ∷ ws) (no_more rest third left r last)) in
    pair_row first second ∙ sym (other_line line first behind short p no_asm ∙ ap command_of_words words)

pub line_of_three : (line first behind second rest third after fourth left : List ℕ) → nat_lt 255 (length line) ≡ false → IsNextWord line first behind
    → (length first ≡ 0 → ⊥) → IsNextWord behind second rest → (length second ≡ 0 → ⊥)
    → IsNextWord rest third after → (length third ≡ 0 → ⊥) → IsNextWord after fourth left → length fourth ≡ 0 → bytes_eq first (codes "asm") ≡ false
    → triple_command first second third ≡ command_of line
line_of_three line first behind second rest third after fourth left short p some q more r third_some t last no_asm =
    let words = next line first behind p some ∙ ap (λ ws. first ∷ ws)
    (next behind second rest q more ∙ ap (λ ws. second ∷ ws)
    (next rest third after r third_some ∙ ap (λ ws. third ∷ ws) (no_more after fourth left t last))) in
    triple_row first second third ∙ sym (other_line line first behind short p no_asm ∙ ap command_of_words words)

pub in_line : (line first behind second rest : List ℕ) → nat_lt 255 (length line) ≡ false → IsNextWord line first behind → (length first ≡ 0 → ⊥)
    → IsNextWord behind second rest → (length second ≡ 0 → ⊥)
    → bytes_eq first (codes "asm") ≡ false → bytes_eq first (codes "in") ≡ true → input_command (bytes_of_words (words_of behind)) ≡ command_of line
in_line line first behind second rest short p some q more no_asm is_in =
    let words = next line first behind p some in
    let words_after = next behind second rest q more in
    ap (λ ws. input_command (bytes_of_words ws)) words_after
    ∙ sym (other_line line first behind short p no_asm ∙ ap command_of_words
    (words ∙ ap (λ w. w ∷ words_of behind) (same first is_in) ∙ ap (λ ws. codes "in" ∷ ws) words_after) ∙ input_words second (words_of rest))

-- ---- lines that begin with `asm`

second_of : (behind second rest : List ℕ) → (first : List ℕ) → IsNextWord behind second rest → second_word (first ∷ words_of behind) ≡ second
second_of behind [] rest first q = ap (λ ws. second_word (first ∷ ws)) q.0
second_of behind (b ∷ w) rest first q = ap (λ ws. second_word (first ∷ ws)) q

is_first : (line first behind : List ℕ) → IsNextWord line first behind → bytes_eq first (codes "asm") ≡ true → words_of line ≡ first ∷ words_of behind
is_first line [] behind p e = cc
is_first line (b ∷ w) behind p e = p

pub asm_line : (line first behind second rest text : List ℕ) → nat_lt 255 (length line) ≡ false → IsNextWord line first behind
    → IsNextWord behind second rest → behind ≡ rest_of line → rest ≡ rest_of behind
    → text ≡ without_spaces rest → bytes_eq first (codes "asm") ≡ true → asm_command (address_of second) text ≡ command_of line
unfolding command_of
asm_line line first behind second rest text short p q e f t yes_asm =
    let words = is_first line first behind p yes_asm in
    let is_text : text ≡ text_of line = t ∙ ap without_spaces (f ∙ ap rest_of e) in
    let is_second : second ≡ second_word (words_of line) = sym (ap second_word words ∙ second_of behind second rest first q) in
    ap (λ x. asm_command (address_of second) x) is_text ∙ ap (λ x. asm_command (address_of x) (text_of line)) is_second
    ∙ sym (ap (λ b. if b then Bad else if is_asm (words_of line) then assembled line (words_of line) else command_of_words (words_of line)) short
    ∙ ap (λ b. if b then assembled line (words_of line) else command_of_words (words_of line)) (ap is_asm words ∙ yes_asm))

-- ---- bytes with zeros after them

abbrev pub padded : ℕ → List ℕ → List ℕ
padded zero xs = []
padded (suc n) [] = 0 ∷ padded n []
padded (suc n) (x ∷ xs) = x ∷ padded n xs

abbrev pub joined : List ℕ → Option (List ℕ) → Option (List ℕ)
joined taken (Some more) = Some (taken ++ more)
joined taken None = None

abbrev zeros : ℕ → List ℕ
zeros zero = []
zeros (suc n) = 0 ∷ zeros n

take_pad : (n m : ℕ) (xs : List ℕ) → n ≤ m → take n (xs ++ zeros m) ≡ padded n xs
take_pad zero m xs h = refl
take_pad (suc n) zero [] h = absurd (omega arith)
take_pad (suc n) (suc m) [] h = ap (λ l. 0 ∷ l) (take_pad n m [] (omega arith))
take_pad (suc n) m (x ∷ xs) h = ap (λ l. x ∷ l) (take_pad n m xs (omega arith))

pad_more : (n : ℕ) (xs : List ℕ) (b : ℕ) → length xs < n → slice_set (padded n xs) (length xs) b ≡ padded n (xs ++ b ∷ [])
pad_more zero xs b h = absurd (omega arith)
pad_more (suc n) [] b h = refl
pad_more (suc n) (x ∷ xs) b h = ap (λ l. x ∷ l) (pad_more n xs b (omega arith))

-- ---- the bytes met so far, and those of the rest

joined_none : (r : Option (List ℕ)) → r ≡ joined [] r
joined_none (Some more) = refl
joined_none None = refl

joined_more : (taken : List ℕ) (b : ℕ) (r : Option (List ℕ)) → joined taken (byte_before (Some b) r) ≡ joined (taken ++ b ∷ []) r
joined_more taken b (Some more) = sym (ap (λ l. Some l) (append_assoc taken (b ∷ []) more))
joined_more taken b None = refl

all_met : (taken : List ℕ) → length taken ≤ 16 → input_command (joined taken (Some [])) ≡ Input (padded 16 taken) (length taken)
all_met taken h =
    ap (λ l. input_command (Some l)) (append-nil taken)
    ∙ ap (λ t. if t then Input (take 16 (taken ++ no_input)) (length taken) else Bad) (le-leb (length taken) 16 h)
    ∙ ap (λ l. Input l (length taken)) (take_pad 16 16 taken (omega arith))

too_many : (taken : List ℕ) (a : Option ℕ) (r : Option (List ℕ)) → length taken ≡ 16 → input_command (joined taken (byte_before a r)) ≡ Bad
too_many taken None r h = refl
too_many taken (Some b) None h = refl
too_many taken (Some b) (Some more) h =
    let bytes = taken ++ b ∷ more in
    ap (λ t. if t then Input (take 16 (bytes ++ no_input)) (length bytes) else Bad) (lt-leb (length bytes) 16 (omega (arith, length-append taken (b ∷ more))))

-- Some bytes of a line were met, and the words of the rest are to come.
abbrev pub Meets : List ℕ → List ℕ → ℕ → List ℕ → Type 0
Meets line bytes count rest =
    (taken : List ℕ) × (length taken ≡ count) × (bytes ≡ padded 16 taken) × (bytes_of_words (words_of line) ≡ joined taken (bytes_of_words (words_of rest)))

pub meets_none : (line : List ℕ) → Meets line (padded 16 []) 0 line
meets_none line = ([], refl, refl, joined_none (bytes_of_words (words_of line)))

none : (line word rest : List ℕ) → IsNextWord line word rest → length word ≡ 0 → words_of line ≡ []
none line [] rest h e = h.0
none line (b ∷ w) rest h e = absurd (omega arith)

pub meets_all : (line bytes : List ℕ) (count : ℕ) (rest word behind : List ℕ) → Meets line bytes count rest → count ≤ 16 → IsNextWord rest word behind
    → length word ≡ 0
    → Input bytes count ≡ input_command (bytes_of_words (words_of line))
meets_all line bytes count rest word behind m h p empty =
    let few : length m.0 ≤ 16 = omega (arith, m.1, h) in
    let whole = ap input_command (m.3 ∙ ap (λ ws. joined m.0 (bytes_of_words ws)) (none rest word behind p empty)) ∙ all_met m.0 few in
    ap (λ l. Input l count) m.2 ∙ ap (λ n. Input (padded 16 m.0) n) (sym m.1) ∙ sym whole

pub meets_bad : (line bytes : List ℕ) (count : ℕ) (rest word behind : List ℕ) → Meets line bytes count rest → IsNextWord rest word behind
    → (length word ≡ 0 → ⊥) → byte_of word ≡ None
    → Bad ≡ input_command (bytes_of_words (words_of line))
meets_bad line bytes count rest word behind m p some e =
    sym (ap input_command (m.3 ∙ ap (λ ws. joined m.0 (bytes_of_words ws)) (next rest word behind p some)
    ∙ ap (λ b. joined m.0 (byte_before b (bytes_of_words (words_of behind)))) e))

pub meets_more : (line bytes : List ℕ) (count : ℕ) (rest word behind : List ℕ) (b : ℕ) → Meets line bytes count rest → count < 16
    → IsNextWord rest word behind → (length word ≡ 0 → ⊥) → byte_of word ≡ Some b
    → Meets line (slice_set bytes count b) (count + 1) behind
meets_more line bytes count rest word behind b m h p some e =
    let place : slice_set bytes count b ≡ slice_set (padded 16 m.0) (length m.0) b =
    ap (λ l. slice_set l count b) m.2 ∙ ap (λ n. slice_set (padded 16 m.0) n b) (sym m.1) in (
      m.0 ++ b ∷ [],
      omega (arith, m.1, length-append m.0 (b ∷ [])),
      place ∙ pad_more 16 m.0 b (omega (arith, m.1, h)),
      m.3 ∙ ap (λ ws. joined m.0 (bytes_of_words ws)) (next rest word behind p some)
          ∙ ap (λ c. joined m.0 (byte_before c (bytes_of_words (words_of behind)))) e ∙ joined_more m.0 b (bytes_of_words (words_of behind)),
    )

pub meets_too_many : (line bytes : List ℕ) (rest word behind : List ℕ) → Meets line bytes 16 rest → IsNextWord rest word behind → (length word ≡ 0 → ⊥)
    → Bad ≡ input_command (bytes_of_words (words_of line))
meets_too_many line bytes rest word behind m p some =
    sym (ap input_command (m.3 ∙ ap (λ ws. joined m.0 (bytes_of_words ws)) (next rest word behind p some))
    ∙ too_many m.0 (byte_of word) (bytes_of_words (words_of behind)) m.1)
