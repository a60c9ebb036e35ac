-- The instructions of a listing, each with its bytes.
use Rattle.std.proofs.Common.{◌≡◌, ℕ, zero, suc, ◌+◌, ◌*◌, ◌/◌, ◌%◌, ◌≤◌, ◌<◌, pos, List, [], ◌∷◌, ◌++◌, length, take, Bool, true, false, Option, Some, None, Ok, refl, sym, ap, ◌∙◌, subst, arith, append-nil, length-append}
use Rattle.std.specs.Prelude.{nat_le, nat_lt, ◌&&◌, slice_index}
use Rattle.std.proofs.lemmas.Bool.{leb-true, ltb-false}
use Rattle.model.specs.declared.instruction.Profile.{Profile}
use Rattle.model.specs.declared.instruction.Mnemonic.{Mnemonic}
use Rattle.model.specs.declared.instruction.Mode.{Mode}
use Rattle.model.specs.declared.instruction.Mode.TheVariants.{Imp, Acc, Imm, Zp, ZpX, ZpY, Abs, AbsX, AbsY, IndX, IndY, Ind, Rel, IndZ}
use Rattle.model.specs.declared.instruction.Row.{Row}
use Rattle.model.specs.declared.line.Index.{Index}
use Rattle.model.specs.declared.line.Index.TheVariants.{Unindexed, X, Y}
use Rattle.model.specs.OpcodeTable.{opcode_of, row_at, IsRowOf}
use Rattle.model.specs.Mnemonics.{mnemonic_text}
use Rattle.model.specs.Expression.{Term, literal}
use Rattle.model.specs.Value.{Numbers, eval_of}
use Rattle.model.specs.Names.{Definitions, number_in}
use Rattle.model.specs.SourceLine.{Operand, immediate, direct, pointer, pointer_by_x, pointer_by_y}
use Rattle.model.specs.Layout.{length_in, zero_page_mode, absolute_mode}
use Rattle.model.specs.InstructionText.{TextRow, has_row, byte_text, word_text, absolute_text, target_of, operand_text, instruction_text, row_of, row_by, byte_row}
use Rattle.law_opcodes.proofs.Encoding.{encoded_of_row, named_of_code, length-mnemonic_text}
use Rattle.law_sources.proofs.Lengths.{len_is, length_in_small}
use Rattle.law_texts.proofs.Letters.{Named}
use Rattle.law_texts.proofs.Digits.{four_digits}
use Rattle.law_texts.proofs.Said.{written}
use Rattle.law_texts.proofs.Texts as texts
use Rattle.law_texts.proofs.Forms as forms
use Rattle.law_texts.proofs.Forms.{of_number}
use Rattle.law_texts.proofs.InstructionIsRead.{Read, byte_number, high, low, first_half, last_half}
use Rattle.law_source_forms.proofs.Stands.{Stands}
use Rattle.law_source_forms.proofs.Data.{AreSmall, data_stands}
use Rattle.law_source_forms.proofs.Instructions.{of_number_is, short_stands, long_stands, branch_stands, immediate_stands, by_x_stands, by_y_stands, near_pointer_stands, far_pointer_stands, implied_stands, accumulator_stands}

pub word_number : (w : ℕ) → w < 65536 → written (word_text w) ≡ of_number w
word_number w below = ap literal (four_digits w below)

with_number : (profile : Profile) (text : List ℕ) (m : Mnemonic) (shape : Term → Operand)
    (e f : Term) → e ≡ f → Read profile text m (shape e) → Read profile text m (shape f)
with_number profile text m shape e f same read = rw same at read

pub word_below : (b c : ℕ) → b < 256 → c < 256 → b + 256 * c < 65536
word_below b c l h = omega (arith, l, h)

pub large_if : (w : ℕ) (short : Bool) → (nat_lt w 256 && short) ≡ false → short ≡ true → 256 ≤ w
large_if w true e h = by (nat_lt w 256) refl e
  where
    by : (t : Bool) → nat_lt w 256 ≡ t → (t && true) ≡ false → 256 ≤ w
    by true q e = absurd cc
    by false q e = ltb-false w 256 q
large_if w false e h = absurd cc

abbrev Plain : Profile → Mnemonic → Index → ℕ → List ℕ → Type 0
Plain profile m by w suffix = Read profile (mnemonic_text m ++ (32 ∷ (word_text w ++ suffix))) m (direct false (written (word_text w)) by)

abbrev Marked : Profile → Mnemonic → Index → ℕ → List ℕ → Type 0
Marked profile m by w suffix = Read profile (mnemonic_text m ++ (32 ∷ 33 ∷ (word_text w ++ suffix))) m (direct true (written (word_text w)) by)

abbrev suffix_of : Index → List ℕ
suffix_of Unindexed = []
suffix_of X = 44 ∷ 88 ∷ []
suffix_of Y = 44 ∷ 89 ∷ []

plain : (profile : Profile) (m : Mnemonic) (by : Index) (named : Named profile m) (w : ℕ)
    → w < 65536 → Plain profile m by w (suffix_of by)
plain profile m Unindexed named w below = texts.absolute_said profile m named _ _ _ _ _ _ _ _ (high (w / 256) (first_half w below)) (low (w / 256))
    (high (w % 256) (last_half w)) (low (w % 256))
plain profile m X named w below = texts.absolute_by_x_said profile m named _ _ _ _ _ _ _ _ (high (w / 256) (first_half w below)) (low (w / 256))
    (high (w % 256) (last_half w)) (low (w % 256))
plain profile m Y named w below = texts.absolute_by_y_said profile m named _ _ _ _ _ _ _ _ (high (w / 256) (first_half w below)) (low (w / 256))
    (high (w % 256) (last_half w)) (low (w % 256))

marked : (profile : Profile) (m : Mnemonic) (by : Index) (named : Named profile m) (w : ℕ)
    → w < 65536 → Marked profile m by w (suffix_of by)
marked profile m Unindexed named w below = texts.marked_said profile m named _ _ _ _ _ _ _ _ (high (w / 256) (first_half w below)) (low (w / 256))
    (high (w % 256) (last_half w)) (low (w % 256))
marked profile m X named w below = texts.marked_by_x_said profile m named _ _ _ _ _ _ _ _ (high (w / 256) (first_half w below)) (low (w / 256))
    (high (w % 256) (last_half w)) (low (w % 256))
marked profile m Y named w below = texts.marked_by_y_said profile m named _ _ _ _ _ _ _ _ (high (w / 256) (first_half w below)) (low (w / 256))
    (high (w % 256) (last_half w)) (low (w % 256))

-- ---- how long a text is

word_size : (w : ℕ) → length (word_text w) ≡ 5
word_size w = refl

absolute_size : (profile : Profile) (m : Mnemonic) (short : Mode) (w : ℕ)
    → length (absolute_text profile m short w) ≤ 6
absolute_size profile m short w = by (nat_lt w 256 && has_row profile m short) refl
  where
    by : (t : Bool) → (nat_lt w 256 && has_row profile m short) ≡ t → length (absolute_text profile m short w) ≤ 6
    by true e = rw e (omega arith)
    by false e = rw e (omega arith)

operand_size : (profile : Profile) (m : Mnemonic) (mode : Mode) (a b c : ℕ)
    → length (operand_text profile m mode a b c) ≤ 9
unfolding operand_text
operand_size profile m Imp a b c = omega arith
operand_size profile m Acc a b c = omega arith
operand_size profile m Imm a b c = omega arith
operand_size profile m Zp a b c = omega arith
operand_size profile m ZpX a b c = omega arith
operand_size profile m ZpY a b c = omega arith
operand_size profile m Abs a b c = omega (arith, absolute_size profile m Zp (b + 256 * c))
operand_size profile m AbsX a b c = omega (
  arith,
  absolute_size profile m ZpX (b + 256 * c),
  length-append (absolute_text profile m ZpX (b + 256 * c))
      (44 ∷ 88 ∷ []),
)
operand_size profile m AbsY a b c = omega (
  arith,
  absolute_size profile m ZpY (b + 256 * c),
  length-append (absolute_text profile m ZpY (b + 256 * c))
      (44 ∷ 89 ∷ []),
)
operand_size profile m IndX a b c = omega arith
operand_size profile m IndY a b c = omega arith
operand_size profile m Ind a b c = omega arith
operand_size profile m Rel a b c = omega arith
operand_size profile m IndZ a b c = omega arith

pub text_size : (profile : Profile) (m : Mnemonic) (mode : Mode) (a b c : ℕ)
    → length (mnemonic_text m ++ operand_text profile m mode a b c) ≤ 12
text_size profile m mode a b c = omega (
  arith,
  length-append (mnemonic_text m) (operand_text profile m mode a b c),
  length-mnemonic_text m,
  operand_size profile m mode a b c,
)

-- ---- instructions

module _ (Near : Definitions → Type 0) (Final : Numbers → Type 0) (profile : Profile) (m : Mnemonic) (a op : ℕ) (here : a < 65536) where
  last_number : (v : ℕ) (numbers : Numbers) → Final numbers → eval_of numbers (pos a) (of_number v) ≡ Ok (pos v)
  last_number v numbers final = of_number_is numbers a v

  zero_page : (by : Index) (b : ℕ) (text : List ℕ) → Read profile text m (direct false (written (byte_text b)) by)
      → opcode_of profile m (zero_page_mode by) ≡ Some op → b < 256
      → Stands Near Final profile text a (op ∷ b ∷ [])
  zero_page by b text read code below =
      short_stands Near Final profile m a op by (of_number b) b text (with_number profile text m (λ e. direct false e by) _ _ (byte_number b below) read)
      (λ names near. forms.zero_page_code profile m (number_in names) a b op by below code) (last_number b) below

  absolute : (by : Index) (b c : ℕ) → opcode_of profile m (absolute_mode by) ≡ Some op → b < 256 → c < 256
      → Stands Near Final profile (mnemonic_text m ++ (32 ∷ (absolute_text profile m (zero_page_mode by) (b + 256 * c) ++ suffix_of by))) a (op ∷ b ∷ c ∷ [])
  absolute by b c code l h = on (nat_lt (b + 256 * c) 256 && has_row profile m (zero_page_mode by)) refl
    where
      w : ℕ
      w = b + 256 * c

      below : b + 256 * c < 65536
      below = word_below b c l h

      named : Named profile m
      named = named_of_code profile m (absolute_mode by) op code

      on : (t : Bool) → (nat_lt (b + 256 * c) 256 && has_row profile m (zero_page_mode by)) ≡ t
          → Stands Near Final profile (mnemonic_text m ++ (32 ∷ (absolute_text profile m (zero_page_mode by) (b + 256 * c) ++ suffix_of by))) a
          (op ∷ b ∷ c ∷ [])
      on true t = rw t (long_stands Near Final profile m a op by true (of_number (b + 256 * c)) b c _
          (with_number profile _ m (λ e. direct true e by) _ _ (word_number (b + 256 * c) below) (marked profile m by named (b + 256 * c) below))
          (λ names near. forms.marked_code profile m (number_in names) a op (of_number (b + 256 * c)) by code) (last_number (b + 256 * c)) l h)
      on false t = rw t (long_stands Near Final profile m a op by false (of_number (b + 256 * c)) b c _
          (with_number profile _ m (λ e. direct false e by) _ _ (word_number (b + 256 * c) below) (plain profile m by named (b + 256 * c) below))
          (λ names near. forms.absolute_code profile m (number_in names) a (b + 256 * c) op by
          (large_if (b + 256 * c) (has_row profile m (zero_page_mode by)) t) code) (last_number (b + 256 * c)) l h)

  pub instruction_stands : (mode : Mode) (b c : ℕ) → opcode_of profile m mode ≡ Some op → b < 256 → c < 256
      → Stands Near Final profile (mnemonic_text m ++ operand_text profile m mode a b c) a (take (length_in mode) (op ∷ b ∷ c ∷ []))
  unfolding operand_text
  instruction_stands Imp b c code l h = implied_stands Near Final profile m a op _ (texts.implied_said profile m (named_of_code profile m Imp op code)) code
  instruction_stands Acc b c code l h = accumulator_stands Near Final profile m a op _
      (texts.accumulator_said profile m (named_of_code profile m Acc op code)) code
  instruction_stands Imm b c code l h =
      immediate_stands Near Final profile m a op (of_number b) b _
      (with_number profile _ m immediate _ _ (byte_number b l)
      (texts.immediate_said profile m (named_of_code profile m Imm op code) _ _ _ _ (high b l) (low b))) code (last_number b) l
  instruction_stands Zp b c code l h = zero_page Unindexed b _
      (texts.zero_page_said profile m (named_of_code profile m Zp op code) _ _ _ _ (high b l) (low b)) code l
  instruction_stands ZpX b c code l h = zero_page X b _ (texts.zero_page_by_x_said profile m (named_of_code profile m ZpX op code) _ _ _ _ (high b l)
      (low b)) code l
  instruction_stands ZpY b c code l h = zero_page Y b _ (texts.zero_page_by_y_said profile m (named_of_code profile m ZpY op code) _ _ _ _ (high b l)
      (low b)) code l
  instruction_stands Abs b c code l h = rw (append-nil (absolute_text profile m Zp (b + 256 * c))) at (absolute Unindexed b c code l h)
  instruction_stands AbsX b c code l h = absolute X b c code l h
  instruction_stands AbsY b c code l h = absolute Y b c code l h
  instruction_stands IndX b c code l h =
      by_x_stands Near Final profile m a op (of_number b) b _
      (with_number profile _ m pointer_by_x _ _ (byte_number b l)
      (texts.pointer_by_x_said profile m (named_of_code profile m IndX op code) _ _ _ _ (high b l) (low b))) code (last_number b) l
  instruction_stands IndY b c code l h =
      by_y_stands Near Final profile m a op (of_number b) b _
      (with_number profile _ m pointer_by_y _ _ (byte_number b l)
      (texts.pointer_by_y_said profile m (named_of_code profile m IndY op code) _ _ _ _ (high b l) (low b))) code (last_number b) l
  instruction_stands Ind b c code l h =
      let w : ℕ = b + 256 * c in
      let below : w < 65536 = word_below b c l h in
      far_pointer_stands Near Final profile m a op (of_number w) b c _
      (with_number profile _ m pointer _ _ (word_number w below)
      (texts.pointer_said profile m (named_of_code profile m Ind op code) _ _ _ _ _ _ _ _ (high (w / 256) (first_half w below)) (low (w / 256))
      (high (w % 256) (last_half w)) (low (w % 256))))
      code (last_number w) l h
  instruction_stands Rel b c code l h =
      let t : ℕ = target_of a b in
      let tb : t < 65536 = omega arith in
      branch_stands Near Final profile m a op (of_number t) b _
      (with_number profile _ m (λ e. direct false e Unindexed) _ _ (word_number t tb)
      (texts.absolute_said profile m (named_of_code profile m Rel op code) _ _ _ _ _ _ _ _ (high (t / 256) (first_half t tb)) (low (t / 256))
      (high (t % 256) (last_half t)) (low (t % 256))))
      code (last_number t) here l
  instruction_stands IndZ b c code l h =
      near_pointer_stands Near Final profile m a op (of_number b) b _
      (with_number profile _ m pointer _ _ (byte_number b l)
      (texts.zero_page_pointer_said profile m (named_of_code profile m IndZ op code) _ _ _ _ (high b l) (low b))) code (last_number b) l

abbrev front_of : List ℕ → List ℕ
front_of bs = slice_index bs 0 ∷ slice_index bs 1 ∷ slice_index bs 2 ∷ []

pub take_front : (mode : Mode) (bs : List ℕ) → length_in mode ≤ length bs → take (length_in mode)
    (front_of bs) ≡ take (length_in mode) bs
take_front mode bs long = go (length_in mode) bs long (length_in_small mode)
  where
    go : (n : ℕ) (bs : List ℕ) → n ≤ length bs → n ≤ 3 → take n (slice_index bs 0 ∷ slice_index bs 1 ∷ slice_index bs 2 ∷ []) ≡ take n bs
    go zero bs long small = refl
    go (suc n) [] long small = absurd (omega (arith, long))
    go (suc zero) (x ∷ bs) long small = refl
    go (suc (suc n)) (x ∷ []) long small = absurd (omega (arith, long))
    go (suc (suc zero)) (x ∷ y ∷ bs) long small = refl
    go (suc (suc (suc n))) (x ∷ y ∷ []) long small = absurd (omega (arith, long))
    go (suc (suc (suc zero))) (x ∷ y ∷ z ∷ bs) long small = refl
    go (suc (suc (suc (suc n)))) (x ∷ y ∷ z ∷ bs) long small = absurd (omega (arith, small))

pub small_at : (bs : List ℕ) → AreSmall bs → (i : ℕ) → slice_index bs i < 256
small_at [] small i = omega arith
small_at (b ∷ bs) small zero = small.0
small_at (b ∷ bs) small (suc i) = small_at bs small.1 i

pub and_both : (s t : Bool) → (s && t) ≡ true → (s ≡ true) × (t ≡ true)
and_both true t h = (refl, h)
and_both false t h = absurd cc

pub length_some : (mode : Mode) → 0 < length_in mode
length_some Imp = omega arith
length_some Acc = omega arith
length_some Imm = omega arith
length_some Zp = omega arith
length_some ZpX = omega arith
length_some ZpY = omega arith
length_some Abs = omega arith
length_some AbsX = omega arith
length_some AbsY = omega arith
length_some IndX = omega arith
length_some IndY = omega arith
length_some Ind = omega arith
length_some Rel = omega arith
length_some IndZ = omega arith
