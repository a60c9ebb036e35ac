-- The text of an instruction in each mode, read at its address, is its bytes again.
use Rattle.std.proofs.Common.{◌≡◌, ℕ, ◌+◌, ◌*◌, ◌/◌, ◌%◌, ◌≤◌, ◌<◌, pos, List, [], ◌∷◌, ◌++◌, Bool, true, false, refl, ap, arith}
use Rattle.std.specs.Prelude.{Some, None, Ok, nat_lt, ◌&&◌}
use Rattle.std.proofs.lemmas.Bool.{ltb-false}
use Rattle.model.specs.declared.instruction.Profile.{Profile}
use Rattle.model.specs.declared.instruction.Mnemonic.{Mnemonic}
use Rattle.model.specs.declared.instruction.Mode.{Mode}
use Rattle.model.specs.declared.instruction.Mode.TheVariants.{Imm, IndX, IndY, Ind, Rel, IndZ}
use Rattle.model.specs.declared.line.Index.{Index}
use Rattle.model.specs.declared.line.Index.TheVariants.{Unindexed, X, Y}
use Rattle.model.specs.OpcodeTable.{opcode_of}
use Rattle.model.specs.Mnemonics.{mnemonic_text}
use Rattle.model.specs.Expression.{Term, literal}
use Rattle.model.specs.Value.{eval_of}
use Rattle.model.specs.SourceLine.{Operand, immediate, direct, pointer, pointer_by_x, pointer_by_y}
use Rattle.model.specs.Layout.{length_in, zero_page_mode, absolute_mode}
use Rattle.model.specs.Bytes.{operand_piece}
use Rattle.model.specs.Text.{hex_digit}
use Rattle.model.specs.SourceLine.{instruction, labelled, read_line}
use Rattle.model.specs.InstructionText.{has_row, byte_text, word_text, absolute_text, target_of}
use Rattle.model.specs.OneLineAssembly.{one_line, no_numbers}
use Rattle.law_opcodes.proofs.Encoding.{named_of_code}
use Rattle.law_texts.proofs.Digits.{Digit, digit, two_digits, four_digits}
use Rattle.law_texts.proofs.Said.{written}
use Rattle.law_texts.proofs.Texts as texts
use Rattle.law_texts.proofs.Forms as forms
use Rattle.law_texts.proofs.Forms.{of_number}
use Rattle.law_texts.proofs.Alone.{with_operand, byte_again, zero_page_again, address_again, branch_again}

pub byte_number : (b : ℕ) → b < 256 → written (byte_text b) ≡ of_number b
byte_number b below = ap literal (two_digits b below)

word_number : (w : ℕ) → w < 65536 → written (word_text w) ≡ of_number w
word_number w below = ap literal (four_digits w below)

pub high : (b : ℕ) → b < 256 → Digit (b / 16) (hex_digit (b / 16))
high b below = digit (b / 16) (omega (arith, below))

pub low : (b : ℕ) → Digit (b % 16) (hex_digit (b % 16))
low b = digit (b % 16) (omega arith)

pub first_half : (w : ℕ) → w < 65536 → w / 256 < 256
first_half w below = omega (arith, below)

pub last_half : (w : ℕ) → w % 256 < 256
last_half w = omega arith

-- an instruction with this operand was read
abbrev pub Read : Profile → List ℕ → Mnemonic → Operand → Type 0
Read profile text m operand = read_line profile text ≡ Ok (labelled None (instruction m operand))

-- what was read, with the number for its text
with_number : (profile : Profile) (text : List ℕ) (m : Mnemonic) (shape : Term → Operand)
    (e f : Term) → e ≡ f → Read profile text m (shape e) → Read profile text m (shape f)
with_number profile text m shape e f same read = rw same at read

-- ---- modes with one byte

abbrev pub One : Profile → Mnemonic → Mode → ℕ → ℕ → ℕ → List ℕ → Type 0
One profile m mode a op b text = opcode_of profile m mode ≡ Some op → b < 256 → a + length_in mode ≤ 65536 → one_line profile a text ≡ Ok (op ∷ b ∷ [])

pub immediate_again : (profile : Profile) (m : Mnemonic) (a op b : ℕ)
    → One profile m Imm a op b (mnemonic_text m ++ 32 ∷ 35 ∷ byte_text b)
unfolding operand_piece eval_of
immediate_again profile m a op b code below fits =
    with_operand profile m Imm (immediate (of_number b)) (of_number b) a op _ (b ∷ [])
    (with_number profile _ m immediate _ _ (byte_number b below)
    (texts.immediate_said profile m (named_of_code profile m Imm op code) _ _ _ _ (high b below) (low b)))
    refl (forms.immediate_code profile m no_numbers a op (of_number b) code) (omega arith) fits (byte_again b below)

zero_page_piece_of : (a : ℕ) (by : Index) (b : ℕ) → b < 256 → operand_piece a (zero_page_mode by)
    (eval_of no_numbers (pos a) (of_number b)) ≡ Ok (b ∷ [])
unfolding operand_piece eval_of
zero_page_piece_of a Unindexed b below = zero_page_again b below
zero_page_piece_of a X b below = zero_page_again b below
zero_page_piece_of a Y b below = zero_page_again b below

short_small : (by : Index) → length_in (zero_page_mode by) ≤ 3
short_small Unindexed = omega arith
short_small X = omega arith
short_small Y = omega arith

pub zero_page_again_by : (profile : Profile) (m : Mnemonic) (by : Index) (a op b : ℕ)
    (text : List ℕ) → Read profile text m (direct false (written (byte_text b)) by)
    → One profile m (zero_page_mode by) a op b text
zero_page_again_by profile m by a op b text read code below fits =
    with_operand profile m (zero_page_mode by) (direct false (of_number b) by) (of_number b) a op text (b ∷ [])
    (with_number profile text m (λ e. direct false e by) _ _ (byte_number b below) read)
    refl (forms.zero_page_code profile m no_numbers a b op by below code) (short_small by) fits (zero_page_piece_of a by b below)

pub pointer_by_x_again : (profile : Profile) (m : Mnemonic) (a op b : ℕ) (text : List ℕ)
    → Read profile text m (pointer_by_x (written (byte_text b))) → One profile m IndX a op b text
unfolding operand_piece eval_of
pointer_by_x_again profile m a op b text read code below fits =
    with_operand profile m IndX (pointer_by_x (of_number b)) (of_number b) a op text (b ∷ [])
    (with_number profile text m pointer_by_x _ _ (byte_number b below) read)
    refl (forms.pointer_by_x_code profile m no_numbers a op (of_number b) code) (omega arith) fits (zero_page_again b below)

pub zero_page_pointer_again : (profile : Profile) (m : Mnemonic) (a op b : ℕ) (text : List ℕ)
    → Read profile text m (pointer (written (byte_text b))) → One profile m IndZ a op b text
unfolding operand_piece eval_of
zero_page_pointer_again profile m a op b text read code below fits =
    with_operand profile m IndZ (pointer (of_number b)) (of_number b) a op text (b ∷ [])
    (with_number profile text m pointer _ _ (byte_number b below) read)
    refl (forms.zero_page_pointer_code profile m no_numbers a op (of_number b) code) (omega arith) fits (zero_page_again b below)

pub pointer_by_y_again : (profile : Profile) (m : Mnemonic) (a op b : ℕ) (text : List ℕ)
    → Read profile text m (pointer_by_y (written (byte_text b))) → One profile m IndY a op b text
unfolding operand_piece eval_of
pointer_by_y_again profile m a op b text read code below fits =
    with_operand profile m IndY (pointer_by_y (of_number b)) (of_number b) a op text (b ∷ [])
    (with_number profile text m pointer_by_y _ _ (byte_number b below) read)
    refl (forms.pointer_by_y_code profile m no_numbers a op (of_number b) code) (omega arith) fits (zero_page_again b below)

pub branch_again_at : (profile : Profile) (m : Mnemonic) (a op b : ℕ) → a < 65536
    → One profile m Rel a op b (mnemonic_text m ++ 32 ∷ word_text (target_of a b))
unfolding operand_piece eval_of
branch_again_at profile m a op b here code below fits =
    let t : ℕ = target_of a b in
    let tb : t < 65536 = omega arith in
    with_operand profile m Rel (direct false (of_number t) Unindexed) (of_number t) a op _ (b ∷ [])
    (with_number profile _ m (λ e. direct false e Unindexed) _ _ (word_number t tb)
    (texts.absolute_said profile m (named_of_code profile m Rel op code) _ _ _ _ _ _ _ _ (high (t / 256) (first_half t tb)) (low (t / 256))
    (high (t % 256) (last_half t)) (low (t % 256))))
    refl (forms.branch_code profile m no_numbers a op (of_number t) code) (omega arith) fits (branch_again a b here below)

-- ---- modes with an address

absolute_piece_of : (a : ℕ) (by : Index) (b c : ℕ) → b < 256 → c < 256
    → operand_piece a (absolute_mode by)
    (eval_of no_numbers (pos a) (of_number (b + 256 * c))) ≡ Ok (b ∷ c ∷ [])
unfolding operand_piece eval_of
absolute_piece_of a Unindexed b c l h = address_again b c l h
absolute_piece_of a X b c l h = address_again b c l h
absolute_piece_of a Y b c l h = address_again b c l h

long_small : (by : Index) → length_in (absolute_mode by) ≤ 3
long_small Unindexed = omega arith
long_small X = omega arith
long_small Y = omega arith

large_if : (w : ℕ) (short : Bool) → (nat_lt w 256 && short) ≡ false → short ≡ true → 256 ≤ w
large_if w true e h = by (nat_lt w 256) refl e
  where
    by : (t : Bool) → nat_lt w 256 ≡ t → (t && true) ≡ false → 256 ≤ w
    by true q e = absurd cc
    by false q e = ltb-false w 256 q
large_if w false e h = absurd cc

-- with and without `!`
pub absolute_again : (profile : Profile) (m : Mnemonic) (by : Index) (a op b c : ℕ)
    (suffix : List ℕ)
    → Read profile (mnemonic_text m ++ (32 ∷ (word_text (b + 256 * c) ++ suffix))) m (direct false (written (word_text (b + 256 * c))) by)
    → Read profile (mnemonic_text m ++ (32 ∷ 33 ∷ (word_text (b + 256 * c) ++ suffix))) m (direct true (written (word_text (b + 256 * c))) by)
    → opcode_of profile m (absolute_mode by) ≡ Some op → b < 256 → c < 256
    → a + length_in (absolute_mode by) ≤ 65536
    → one_line profile a (mnemonic_text m ++ (32 ∷ (absolute_text profile m (zero_page_mode by) (b + 256 * c) ++ suffix)))
    ≡ Ok (op ∷ b ∷ c ∷ [])
absolute_again profile m by a op b c suffix plain marked code l h fits = on (nat_lt (b + 256 * c) 256 && has_row profile m (zero_page_mode by)) refl
  where
    w : ℕ
    w = b + 256 * c

    below : b + 256 * c < 65536
    below = omega (arith, l, h)

    on : (t : Bool) → (nat_lt (b + 256 * c) 256 && has_row profile m (zero_page_mode by)) ≡ t
        → one_line profile a (mnemonic_text m ++ (32 ∷ (absolute_text profile m (zero_page_mode by) (b + 256 * c) ++ suffix))) ≡ Ok (op ∷ b ∷ c ∷ [])
    on true t = rw t (with_operand profile m (absolute_mode by) (direct true (of_number (b + 256 * c)) by) (of_number (b + 256 * c)) a op _ (b ∷ c ∷ [])
        (with_number profile _ m (λ e. direct true e by) _ _ (word_number (b + 256 * c) below) marked)
        refl (forms.marked_code profile m no_numbers a op (of_number (b + 256 * c)) by code) (long_small by) fits (absolute_piece_of a by b c l h))
    on false t = rw t (with_operand profile m (absolute_mode by) (direct false (of_number (b + 256 * c)) by) (of_number (b + 256 * c)) a op _ (b ∷ c ∷ [])
        (with_number profile _ m (λ e. direct false e by) _ _ (word_number (b + 256 * c) below) plain)
        refl (forms.absolute_code profile m no_numbers a (b + 256 * c) op by (large_if (b + 256 * c) (has_row profile m (zero_page_mode by)) t) code)
        (long_small by) fits (absolute_piece_of a by b c l h))

pub pointer_again : (profile : Profile) (m : Mnemonic) (a op b c : ℕ) (text : List ℕ)
    → Read profile text m (pointer (written (word_text (b + 256 * c))))
    → opcode_of profile m Ind ≡ Some op → b < 256 → c < 256 → a + 3 ≤ 65536
    → one_line profile a text ≡ Ok (op ∷ b ∷ c ∷ [])
unfolding operand_piece eval_of
pointer_again profile m a op b c text read code l h fits =
    let below : b + 256 * c < 65536 = omega (arith, l, h) in
    with_operand profile m Ind (pointer (of_number (b + 256 * c))) (of_number (b + 256 * c)) a op text (b ∷ c ∷ [])
    (with_number profile text m pointer _ _ (word_number (b + 256 * c) below) read)
    refl (forms.pointer_code profile m no_numbers a op (of_number (b + 256 * c)) code) (omega arith) fits (address_again b c l h)
