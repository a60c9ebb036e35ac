-- The text of every row, read at its address, is the row's bytes again.
use Rattle.std.proofs.Common.{◌≡◌, ℕ, zero, suc, ◌+◌, ◌*◌, ◌/◌, ◌%◌, ◌≤◌, ◌<◌, List, [], ◌∷◌, ◌++◌, length, take, Bool, true, false, refl, sym, ap, ◌∙◌, append-nil, arith}
use Rattle.std.specs.Prelude.{Some, None, Option, Ok, nat_le, ◌&&◌, slice_index}
use Rattle.std.proofs.lemmas.Bool.{leb-true}
use Rattle.model.specs.declared.instruction.Profile.{Profile}
use Rattle.model.specs.declared.instruction.Mnemonic.{Mnemonic}
use Rattle.model.specs.declared.instruction.Mode.{Mode}
use Rattle.model.specs.declared.instruction.Mode.TheVariants.{Imp, Acc, Imm, Zp, ZpX, ZpY, Abs, AbsX, AbsY, IndX, IndY, Ind, Rel, IndZ}
use Rattle.model.specs.declared.instruction.Row.{Row}
use Rattle.model.specs.declared.line.Index.{Index}
use Rattle.model.specs.declared.line.Index.TheVariants.{Unindexed, X, Y}
use Rattle.model.specs.OpcodeTable.{opcode_of, row_at, IsRowOf}
use Rattle.model.specs.Mnemonics.{mnemonic_text}
use Rattle.model.specs.Value.{eval_of}
use Rattle.model.specs.SourceLine.{absent, accumulator, direct}
use Rattle.model.specs.Layout.{length_in}
use Rattle.law_opcodes.proofs.Encoding.{encoded_of_row, named_of_code}
use Rattle.model.specs.InstructionText.{TextRow, word_text, absolute_text, operand_text, row_of, row_by, byte_row}
use Rattle.model.specs.OneLineAssembly.{one_line, no_numbers}
use Rattle.law_texts.specs.Law.{TextIsReadAgain}
use Rattle.law_sources.proofs.Lengths.{len_is, length_in_small}
use Rattle.law_texts.proofs.Letters.{Named}
use Rattle.law_texts.proofs.Texts as texts
use Rattle.law_texts.proofs.Forms as forms
use Rattle.law_texts.proofs.Forms.{of_number}
use Rattle.law_texts.proofs.Said.{written}
use Rattle.law_texts.proofs.Alone.{without_operand, byte_line}
use Rattle.law_texts.proofs.InstructionIsRead.{Read, byte_number, high, low, first_half, last_half, immediate_again, zero_page_again_by, pointer_by_x_again, pointer_by_y_again, zero_page_pointer_again, branch_again_at, absolute_again, pointer_again}

word_below : (b c : ℕ) → b < 256 → c < 256 → b + 256 * c < 65536
word_below b c l h = omega (arith, l, h)

abbrev Plain : Profile → Mnemonic → Index → ℕ → List ℕ → Type 0
Plain profile m by w suffix = Read profile (mnemonic_text m ++ (32 ∷ (word_text w ++ suffix))) m (direct false (written (word_text w)) by)

abbrev Marked : Profile → Mnemonic → Index → ℕ → List ℕ → Type 0
Marked profile m by w suffix = Read profile (mnemonic_text m ++ (32 ∷ 33 ∷ (word_text w ++ suffix))) m (direct true (written (word_text w)) by)

plain : (profile : Profile) (m : Mnemonic) (named : Named profile m) (w : ℕ) → w < 65536
    → Plain profile m Unindexed w []
plain profile m named w below = texts.absolute_said profile m named _ _ _ _ _ _ _ _ (high (w / 256) (first_half w below)) (low (w / 256))
    (high (w % 256) (last_half w)) (low (w % 256))

marked : (profile : Profile) (m : Mnemonic) (named : Named profile m) (w : ℕ) → w < 65536
    → Marked profile m Unindexed w []
marked profile m named w below = texts.marked_said profile m named _ _ _ _ _ _ _ _ (high (w / 256) (first_half w below)) (low (w / 256))
    (high (w % 256) (last_half w)) (low (w % 256))

plain_by_x : (profile : Profile) (m : Mnemonic) (named : Named profile m) (w : ℕ) → w < 65536
    → Plain profile m X w (44 ∷ 88 ∷ [])
plain_by_x profile m named w below = texts.absolute_by_x_said profile m named _ _ _ _ _ _ _ _ (high (w / 256) (first_half w below)) (low (w / 256))
    (high (w % 256) (last_half w)) (low (w % 256))

marked_by_x : (profile : Profile) (m : Mnemonic) (named : Named profile m) (w : ℕ) → w < 65536
    → Marked profile m X w (44 ∷ 88 ∷ [])
marked_by_x profile m named w below = texts.marked_by_x_said profile m named _ _ _ _ _ _ _ _ (high (w / 256) (first_half w below)) (low (w / 256))
    (high (w % 256) (last_half w)) (low (w % 256))

plain_by_y : (profile : Profile) (m : Mnemonic) (named : Named profile m) (w : ℕ) → w < 65536
    → Plain profile m Y w (44 ∷ 89 ∷ [])
plain_by_y profile m named w below = texts.absolute_by_y_said profile m named _ _ _ _ _ _ _ _ (high (w / 256) (first_half w below)) (low (w / 256))
    (high (w % 256) (last_half w)) (low (w % 256))

marked_by_y : (profile : Profile) (m : Mnemonic) (named : Named profile m) (w : ℕ) → w < 65536
    → Marked profile m Y w (44 ∷ 89 ∷ [])
marked_by_y profile m named w below = texts.marked_by_y_said profile m named _ _ _ _ _ _ _ _ (high (w / 256) (first_half w below)) (low (w / 256))
    (high (w % 256) (last_half w)) (low (w % 256))

-- the bytes of an instruction again, from its mnemonic, its mode and its operand bytes
instruction_again : (profile : Profile) (m : Mnemonic) (mode : Mode) (a op b c : ℕ) → a < 65536
    → opcode_of profile m mode ≡ Some op → b < 256 → c < 256 → a + length_in mode ≤ 65536
    → one_line profile a (mnemonic_text m ++ operand_text profile m mode a b c)
    ≡ Ok (take (length_in mode) (op ∷ b ∷ c ∷ []))
unfolding operand_text
instruction_again profile m Imp a op b c here code l h fits =
    without_operand profile m Imp absent a op _ (texts.implied_said profile m (named_of_code profile m Imp op code)) refl
    (forms.implied_code profile m no_numbers a op code) (omega arith) fits
instruction_again profile m Acc a op b c here code l h fits =
    without_operand profile m Acc accumulator a op _ (texts.accumulator_said profile m (named_of_code profile m Acc op code)) refl
    (forms.accumulator_code profile m no_numbers a op code) (omega arith) fits
instruction_again profile m Imm a op b c here code l h fits = immediate_again profile m a op b code l fits
instruction_again profile m Zp a op b c here code l h fits =
    zero_page_again_by profile m Unindexed a op b _ (texts.zero_page_said profile m (named_of_code profile m Zp op code) _ _ _ _ (high b l) (low b)) code l fits
instruction_again profile m ZpX a op b c here code l h fits =
    zero_page_again_by profile m X a op b _ (texts.zero_page_by_x_said profile m (named_of_code profile m ZpX op code) _ _ _ _ (high b l) (low b)) code l fits
instruction_again profile m ZpY a op b c here code l h fits =
    zero_page_again_by profile m Y a op b _ (texts.zero_page_by_y_said profile m (named_of_code profile m ZpY op code) _ _ _ _ (high b l) (low b)) code l fits
instruction_again profile m Abs a op b c here code l h fits =
    let w : ℕ = b + 256 * c in
    let below : w < 65536 = word_below b c l h in
    let named : Named profile m = named_of_code profile m Abs op code in
    rw (append-nil (absolute_text profile m Zp w)) at (absolute_again profile m Unindexed a op b c [] (plain profile m named w below)
    (marked profile m named w below) code l h fits)
instruction_again profile m AbsX a op b c here code l h fits =
    let w : ℕ = b + 256 * c in
    let below : w < 65536 = word_below b c l h in
    let named : Named profile m = named_of_code profile m AbsX op code in
    absolute_again profile m X a op b c (44 ∷ 88 ∷ []) (plain_by_x profile m named w below) (marked_by_x profile m named w below) code l h fits
instruction_again profile m AbsY a op b c here code l h fits =
    let w : ℕ = b + 256 * c in
    let below : w < 65536 = word_below b c l h in
    let named : Named profile m = named_of_code profile m AbsY op code in
    absolute_again profile m Y a op b c (44 ∷ 89 ∷ []) (plain_by_y profile m named w below) (marked_by_y profile m named w below) code l h fits
instruction_again profile m IndX a op b c here code l h fits =
    pointer_by_x_again profile m a op b _ (texts.pointer_by_x_said profile m (named_of_code profile m IndX op code) _ _ _ _ (high b l) (low b)) code l fits
instruction_again profile m IndY a op b c here code l h fits =
    pointer_by_y_again profile m a op b _ (texts.pointer_by_y_said profile m (named_of_code profile m IndY op code) _ _ _ _ (high b l) (low b)) code l fits
instruction_again profile m Ind a op b c here code l h fits =
    let w : ℕ = b + 256 * c in
    let below : w < 65536 = word_below b c l h in
    pointer_again profile m a op b c _ (texts.pointer_said profile m (named_of_code profile m Ind op code) _ _ _ _ _ _ _ _
    (high (w / 256) (first_half w below)) (low (w / 256)) (high (w % 256) (last_half w)) (low (w % 256))) code l h fits
instruction_again profile m Rel a op b c here code l h fits = branch_again_at profile m a op b here code l fits
instruction_again profile m IndZ a op b c here code l h fits =
    zero_page_pointer_again profile m a op b _ (texts.zero_page_pointer_said profile m (named_of_code profile m IndZ op code) _ _ _ _ (high b l)
    (low b)) code l fits

-- a byte that begins no instruction
byte_row_again : (profile : Profile) (a b : ℕ) → a < 65536 → b < 256
    → one_line profile a (byte_row b).text ≡ Ok (b ∷ [])
unfolding eval_of
byte_row_again profile a b here below =
    let e = byte_number b below in
    byte_line profile a b (of_number b) _ (rw e at (texts.byte_said profile _ _ _ _ (high b below) (low b))) refl below here

-- ---- rows

abbrev front_of : List ℕ → List ℕ
front_of bs = slice_index bs 0 ∷ slice_index bs 1 ∷ slice_index bs 2 ∷ []

take_front : (mode : Mode) (bs : List ℕ) → length_in mode ≤ length bs → take (length_in mode)
    (front_of bs) ≡ take (length_in mode) bs
take_front mode bs long = go (length_in mode) bs long (length_in_small mode)
  where
    go : (n : ℕ) (bs : List ℕ) → n ≤ length bs → n ≤ 3 → take n (slice_index bs 0 ∷ slice_index bs 1 ∷ slice_index bs 2 ∷ []) ≡ take n bs
    go zero bs long small = refl
    go (suc n) [] long small = absurd (omega (arith, long))
    go (suc zero) (x ∷ bs) long small = refl
    go (suc (suc n)) (x ∷ []) long small = absurd (omega (arith, long))
    go (suc (suc zero)) (x ∷ y ∷ bs) long small = refl
    go (suc (suc (suc n))) (x ∷ y ∷ []) long small = absurd (omega (arith, long))
    go (suc (suc (suc zero))) (x ∷ y ∷ z ∷ bs) long small = refl
    go (suc (suc (suc (suc n)))) (x ∷ y ∷ z ∷ bs) long small = absurd (omega (arith, small))

abbrev IsAgain : Profile → ℕ → List ℕ → TextRow → Type 0
IsAgain profile a bs row = one_line profile a row.text ≡ Ok (take row.len bs)

one_byte : (profile : Profile) (a : ℕ) (bs : List ℕ) → 0 < length bs → a < 65536
    → ((i : ℕ) → slice_index bs i < 256) → IsAgain profile a bs (byte_row (slice_index bs 0))
one_byte profile a [] some here each = absurd (omega (arith, some))
one_byte profile a (x ∷ bs) some here each = byte_row_again profile a x here (each 0)

and_left : (s t : Bool) → (s && t) ≡ true → s ≡ true
and_left true t h = refl
and_left false t h = absurd cc

and_right : (s t : Bool) → (s && t) ≡ true → t ≡ true
and_right true t h = h
and_right false t h = absurd cc

pub row_again : TextIsReadAgain
unfolding row_of
row_again profile bs a some each here = on (row_at profile (slice_index bs 0)) refl
  where
    of_row : (row : Row) → row_at profile (slice_index bs 0) ≡ Some row → (t : Bool) → (nat_le row.len (length bs) && nat_le (a + row.len) 65536) ≡ t
        → IsAgain profile a bs (row_by profile a (slice_index bs 0) bs (Some row))
    of_row row e true t =
        let len : row.len ≡ length_in row.mode = len_is profile (slice_index bs 0) row (each 0) e in
        let long : row.len ≤ length bs = leb-true _ _ (and_left _ _ t) in
        let fits : a + row.len ≤ 65536 = leb-true _ _ (and_right _ _ t) in
        let is : IsRowOf row.mnemonic row.mode (row_at profile (slice_index bs 0)) = rw e (refl, refl) in
        let code : opcode_of profile row.mnemonic row.mode ≡ Some (slice_index bs 0) =
        encoded_of_row profile row.mnemonic row.mode (slice_index bs 0) (each 0) is in
        rw t (instruction_again profile row.mnemonic row.mode a (slice_index bs 0) (slice_index bs 1) (slice_index bs 2) here code (each 1) (each 2)
        (rw len at fits)
        ∙ ap (λ (x : List ℕ). Ok x) (take_front row.mode bs (rw len at long)) ∙ ap (λ (n : ℕ). Ok (take n bs)) (sym len))
    of_row row e false t = rw t (one_byte profile a bs some here each)

    on : (r : Option Row) → row_at profile (slice_index bs 0) ≡ r → IsAgain profile a bs (row_by profile a (slice_index bs 0) bs r)
    on None e = one_byte profile a bs some here each
    on (Some row) e = of_row row e _ refl
