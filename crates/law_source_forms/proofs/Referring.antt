-- Instructions and words whose address is a label.
use Rattle.std.proofs.Common.{◌≡◌, ℕ, ◌+◌, ◌-◌, ◌*◌, ◌/◌, ◌%◌, ◌≤◌, ◌<◌, ◌^◌, pos, List, [], ◌∷◌, ◌++◌, length, take, Bool, true, false, Option, Some, None, Ok, Err, refl, sym, ap, ◌∙◌, subst, arith, inl, inr, append-nil, length-append}
use Rattle.std.specs.Prelude.{◌&&◌, nat_le, nat_lt, if◌then◌else◌, codes}
use Rattle.std.specs.List.{list_all}
use Rattle.std.proofs.lemmas.Bool.{le-ltb, lt-ltb, ltb-true, leb-true}
use Rattle.model.specs.declared.instruction.Profile.{Profile}
use Rattle.model.specs.declared.instruction.Mnemonic.{Mnemonic}
use Rattle.model.specs.declared.instruction.Mode.{Mode}
use Rattle.model.specs.declared.instruction.Mode.TheVariants.{Imp, Acc, Imm, Zp, ZpX, ZpY, Abs, AbsX, AbsY, IndX, IndY, Ind, Rel, IndZ}
use Rattle.model.specs.declared.line.Index.{Index}
use Rattle.model.specs.declared.line.Index.TheVariants.{Unindexed, X, Y}
use Rattle.model.specs.declared.source_fault.AsmFaultKind.{AsmFaultKind}
use Rattle.model.specs.declared.expression.TokenKind.TheVariants.{Directive}
use Rattle.model.specs.declared.expression.ExprFault.TheVariants as expression
use Rattle.model.specs.Token.{Lexeme, Tokens, is_source_byte, tokens_of, tokens_from, token_at}
use Rattle.model.specs.OpcodeTable.{opcode_of}
use Rattle.model.specs.Mnemonics.{mnemonic_text}
use Rattle.model.specs.Reading.{expression_of}
use Rattle.model.specs.Expression.{Term, literal, binary}
use Rattle.model.specs.declared.expression.Operator.TheVariants.{Subtract}
use Rattle.model.specs.Value.{Numbers, eval_of, value_of, knows}
use Rattle.model.specs.Names.{Definitions, number_in}
use Rattle.model.specs.SourceLine.{direct, pointer, operand_of, operand_reserves, line_reserves, words, labelled, read_line, line_of, statement_of, directive_of, list_within}
use Rattle.model.specs.Layout.{word_list, code_for, form_of, length_in, zero_page_mode, absolute_mode, size_of, layout_of, named_line_at, statement_at}
use Rattle.model.specs.Bytes.{word_piece, kinds_in, lowest, lower, pieces_of, line_bytes}
use Rattle.model.specs.InstructionText.{has_row, word_text, absolute_text, target_of, operand_text}
use Rattle.law_opcodes.proofs.Encoding.{named_of_code, length-mnemonic_text}
use Rattle.law_texts.proofs.Letters.{Capital, Named, Letters, letters}
use Rattle.law_texts.proofs.Steps.{word, number, symbol, before, word_first, address_first}
use Rattle.law_texts.proofs.Said.{written, word_line, marked_line, bracket_line, line_read}
use Rattle.law_texts.proofs.Forms as forms
use Rattle.law_texts.proofs.Forms.{of_number, as_coded}
use Rattle.law_texts.proofs.InstructionIsRead.{Read, high, low, first_half, last_half}
use Rattle.law_source_forms.proofs.Stands.{Stands, fixed_at, placed_at, read_plain}
use Rattle.law_source_forms.proofs.Instructions.{of_number_is, same_coded, far_coded, same_form, long_stands, branch_stands, far_pointer_stands}
use Rattle.law_source_forms.proofs.Listed.{word_number, word_below, large_if, and_both, instruction_stands, text_size}
use Rattle.source_forms.specs.Pieces.{label_text, reach_at, place_text, direct_front, direct_text, labelled_text}
use Rattle.law_source_forms.proofs.Places.{Tail, none, one, two, tail_text, added, place_term, Ending, ends, by_x, by_y, closes, less_one, ending_text, after_label, after_tokens, behind_label, place_tokens, place_found, label_plain, after_plain, free_label, Near, place_known, place_unknown}

-- ---- what an operand by label says

abbrev ending_of : Index → Ending
ending_of Unindexed = ends
ending_of X = by_x
ending_of Y = by_y

direct_read : (p s : ℕ) (t : Tail) (by : Index) → operand_of (place_tokens p s t (ending_of by))
    ≡ Some (direct false (place_term s t) by)
unfolding operand_of expression_of
direct_read p s none Unindexed = refl
direct_read p s none X = refl
direct_read p s none Y = refl
direct_read p s one Unindexed = refl
direct_read p s one X = refl
direct_read p s one Y = refl
direct_read p s two Unindexed = refl
direct_read p s two X = refl
direct_read p s two Y = refl

marked_read : (o p s : ℕ) (t : Tail) (by : Index)
    → operand_of (symbol o 33 ∷ place_tokens p s t (ending_of by))
    ≡ Some (direct true (place_term s t) by)
unfolding operand_of expression_of
marked_read o p s none Unindexed = refl
marked_read o p s none X = refl
marked_read o p s none Y = refl
marked_read o p s one Unindexed = refl
marked_read o p s one X = refl
marked_read o p s one Y = refl
marked_read o p s two Unindexed = refl
marked_read o p s two X = refl
marked_read o p s two Y = refl

pointer_read : (o p s : ℕ) (t : Tail) → operand_of (symbol o 40 ∷ place_tokens p s t closes)
    ≡ Some (pointer (place_term s t))
unfolding operand_of expression_of
pointer_read o p s none = refl
pointer_read o p s one = refl
pointer_read o p s two = refl

-- ---- lines with an operand by label

after_size : (t : Tail) (u : Ending) → length (after_label t u) ≤ 4
after_size none ends = omega arith
after_size none by_x = omega arith
after_size none by_y = omega arith
after_size none closes = omega arith
after_size none less_one = omega arith
after_size one ends = omega arith
after_size one by_x = omega arith
after_size one by_y = omega arith
after_size one closes = omega arith
after_size one less_one = omega arith
after_size two ends = omega arith
after_size two by_x = omega arith
after_size two by_y = omega arith
after_size two closes = omega arith
after_size two less_one = omega arith

plain_place : (s : ℕ) (t : Tail) (u : Ending) → s < 65536
    → list_all is_source_byte (label_text s ++ after_label t u) ≡ true
plain_place s t u below = label_plain s (after_label t u) below (after_plain t u)

free_term : (profile : Profile) (s : ℕ) (t : Tail) (marked : Bool) (by : Index)
    → operand_reserves profile (direct marked (place_term s t) by) ≡ false
free_term profile s none marked by = free_label profile s
free_term profile s one marked by = rw (free_label profile s) refl
free_term profile s two marked by = rw (free_label profile s) refl

free_pointer : (profile : Profile) (s : ℕ) (t : Tail)
    → operand_reserves profile (pointer (place_term s t)) ≡ false
free_pointer profile s none = free_label profile s
free_pointer profile s one = rw (free_label profile s) refl
free_pointer profile s two = rw (free_label profile s) refl

abbrev text_behind : ℕ → Tail → Ending → List ℕ
text_behind s t u = label_text s ++ after_label t u

direct_tokens : (a b c s : ℕ) (t : Tail) (u : Ending) → Capital a → Capital b → Capital c
    → s < 65536 → tokens_from 0 0 (a ∷ b ∷ c ∷ 32 ∷ text_behind s t u)
    ≡ Some (word 0 (a ∷ b ∷ c ∷ []) ∷ place_tokens 4 s t u)
unfolding tokens_from token_at
direct_tokens a b c s t u A B C below =
    word_first a b c (32 ∷ text_behind s t u) A B C refl
    ∙ ap (before (word 0 (a ∷ b ∷ c ∷ []))) (place_found 4 s t u below)

marked_tokens : (a b c s : ℕ) (t : Tail) (u : Ending) → Capital a → Capital b → Capital c
    → s < 65536 → tokens_from 0 0 (a ∷ b ∷ c ∷ 32 ∷ 33 ∷ text_behind s t u)
    ≡ Some (word 0 (a ∷ b ∷ c ∷ []) ∷ symbol 4 33 ∷ place_tokens 5 s t u)
unfolding tokens_from token_at
marked_tokens a b c s t u A B C below =
    word_first a b c (32 ∷ 33 ∷ text_behind s t u) A B C refl
    ∙ ap (λ (x : Tokens). before (word 0 (a ∷ b ∷ c ∷ [])) (before (symbol 4 33) x)) (place_found 5 s t u below)

pointer_tokens : (a b c s : ℕ) (t : Tail) (u : Ending) → Capital a → Capital b → Capital c
    → s < 65536 → tokens_from 0 0 (a ∷ b ∷ c ∷ 32 ∷ 40 ∷ text_behind s t u)
    ≡ Some (word 0 (a ∷ b ∷ c ∷ []) ∷ symbol 4 40 ∷ place_tokens 5 s t u)
unfolding tokens_from token_at
pointer_tokens a b c s t u A B C below =
    word_first a b c (32 ∷ 40 ∷ text_behind s t u) A B C refl
    ∙ ap (λ (x : Tokens). before (word 0 (a ∷ b ∷ c ∷ [])) (before (symbol 4 40) x)) (place_found 5 s t u below)

direct_said : (profile : Profile) (m : Mnemonic) → Named profile m → (s : ℕ) (t : Tail)
    (by : Index) → s < 65536 → Read profile (mnemonic_text m ++ 32 ∷ text_behind s t (ending_of by))
    m (direct false (place_term s t) by)
direct_said profile m named s t by below =
    let L : Letters profile m = letters profile m named in
    let few : length (L.a ∷ L.b ∷ L.c ∷ 32 ∷ text_behind s t (ending_of by)) ≤ 255 = omega (arith, after_size t (ending_of by)) in
    rw L.spelled (line_read profile m L.a L.b L.c (32 ∷ text_behind s t (ending_of by))
    (word 0 (L.a ∷ L.b ∷ L.c ∷ []) ∷ place_tokens 4 s t (ending_of by)) (direct false (place_term s t) by)
    L.first L.second L.third (le-ltb 255 _ few) (plain_place s t (ending_of by) below)
    (direct_tokens L.a L.b L.c s t (ending_of by) L.first L.second L.third below)
    (word_line profile m 0 4 (L.a ∷ L.b ∷ L.c ∷ []) (label_text s) (after_tokens (behind_label 4) t (ending_of by)) (direct false (place_term s t) by)
    L.named (direct_read 4 s t by))
    (free_term profile s t false by))

marked_said : (profile : Profile) (m : Mnemonic) → Named profile m → (s : ℕ) (t : Tail)
    (by : Index) → s < 65536
    → Read profile (mnemonic_text m ++ 32 ∷ 33 ∷ text_behind s t (ending_of by))
    m (direct true (place_term s t) by)
marked_said profile m named s t by below =
    let L : Letters profile m = letters profile m named in
    let few : length (L.a ∷ L.b ∷ L.c ∷ 32 ∷ 33 ∷ text_behind s t (ending_of by)) ≤ 255 = omega (arith, after_size t (ending_of by)) in
    rw L.spelled (line_read profile m L.a L.b L.c (32 ∷ 33 ∷ text_behind s t (ending_of by))
    (word 0 (L.a ∷ L.b ∷ L.c ∷ []) ∷ symbol 4 33 ∷ place_tokens 5 s t (ending_of by)) (direct true (place_term s t) by)
    L.first L.second L.third (le-ltb 255 _ few) (plain_place s t (ending_of by) below)
    (marked_tokens L.a L.b L.c s t (ending_of by) L.first L.second L.third below)
    (marked_line profile m 0 4 (L.a ∷ L.b ∷ L.c ∷ []) (place_tokens 5 s t (ending_of by)) (direct true (place_term s t) by) L.named (marked_read 4 5 s t by))
    (free_term profile s t true by))

pointer_said : (profile : Profile) (m : Mnemonic) → Named profile m → (s : ℕ) (t : Tail)
    → s < 65536 → Read profile (mnemonic_text m ++ 32 ∷ 40 ∷ text_behind s t closes)
    m (pointer (place_term s t))
pointer_said profile m named s t below =
    let L : Letters profile m = letters profile m named in
    let few : length (L.a ∷ L.b ∷ L.c ∷ 32 ∷ 40 ∷ text_behind s t closes) ≤ 255 = omega (arith, after_size t closes) in
    rw L.spelled (line_read profile m L.a L.b L.c (32 ∷ 40 ∷ text_behind s t closes)
    (word 0 (L.a ∷ L.b ∷ L.c ∷ []) ∷ symbol 4 40 ∷ place_tokens 5 s t closes) (pointer (place_term s t))
    L.first L.second L.third (le-ltb 255 _ few) (plain_place s t closes below) (pointer_tokens L.a L.b L.c s t closes L.first L.second L.third below)
    (bracket_line profile m 0 4 (L.a ∷ L.b ∷ L.c ∷ []) (place_tokens 5 s t closes) (pointer (place_term s t)) L.named (pointer_read 4 5 s t))
    (free_pointer profile s t))

-- ---- which label an address has

-- under the numbers of all names each label of a table has its address
abbrev pub Final : List ℕ → Numbers → Type 0
Final table numbers = (s : ℕ) → s < 65536 → 0 < reach_at table s
    → numbers (label_text s) ≡ Some (pos s)

-- what holds of a number and of each label holds of an address
pub by_place : (table : List ℕ) (w : ℕ) (P : List ℕ → Type 0) → P (word_text w)
    → ((s : ℕ) (t : Tail) → s + added t ≡ w → 0 < reach_at table s → P (label_text s ++ tail_text t))
    → P (place_text table w)
unfolding place_text
by_place table w P number label = first (nat_lt 0 (reach_at table w)) refl
  where
    third : (x : Bool) → (nat_le 2 w && nat_lt 2 (reach_at table (w - 2))) ≡ x
        → P (if x then label_text (w - 2) ++ codes "+2" else word_text w)
    third true e =
        let both = and_both _ _ e in
        let large : 2 ≤ w = leb-true 2 w both.0 in
        let reaches : 2 < reach_at table (w - 2) = ltb-true 2 _ both.1 in
        label (w - 2) two (omega (arith, large)) (omega (arith, reaches))
    third false e = number

    second : (x : Bool) → (nat_le 1 w && nat_lt 1 (reach_at table (w - 1))) ≡ x
        → P (if x then label_text (w - 1) ++ codes "+1"
        else if nat_le 2 w && nat_lt 2 (reach_at table (w - 2)) then label_text (w - 2) ++ codes "+2"
        else word_text w)
    second true e =
        let both = and_both _ _ e in
        let large : 1 ≤ w = leb-true 1 w both.0 in
        let reaches : 1 < reach_at table (w - 1) = ltb-true 1 _ both.1 in
        label (w - 1) one (omega (arith, large)) (omega (arith, reaches))
    second false e = third (nat_le 2 w && nat_lt 2 (reach_at table (w - 2))) refl

    first : (x : Bool) → nat_lt 0 (reach_at table w) ≡ x
        → P (if x then label_text w
        else if nat_le 1 w && nat_lt 1 (reach_at table (w - 1)) then label_text (w - 1) ++ codes "+1"
        else if nat_le 2 w && nat_lt 2 (reach_at table (w - 2)) then label_text (w - 2) ++ codes "+2"
        else word_text w)
    first true e = label w none (omega arith) (ltb-true 0 _ e)
    first false e = second (nat_le 1 w && nat_lt 1 (reach_at table (w - 1))) refl

tail_size : (t : Tail) → length (tail_text t) ≤ 2
tail_size none = omega arith
tail_size one = omega arith
tail_size two = omega arith

pub place_size : (table : List ℕ) (w : ℕ) → length (place_text table w) ≤ 8
place_size table w = by_place table w (λ x. length x ≤ 8) (omega arith) (λ s t adds reaches. omega (arith, tail_size t))

-- ---- an instruction in an absolute mode

known_coded : (profile : Profile) (m : Mnemonic) (names : Definitions) (a v op : ℕ) (e : Term)
    (by : Index) → eval_of (number_in names) (pos a) e ≡ Ok (pos v)
    → (has_row profile m (zero_page_mode by) ≡ true → 256 ≤ v)
    → opcode_of profile m (absolute_mode by) ≡ Some op
    → code_for (number_in names) a (Some e) (form_of profile m (direct false e by))
    ≡ Ok (as_coded op (absolute_mode by))
known_coded profile m names a v op e by known large found =
    same_coded (number_in names) a (of_number v) e (form_of profile m (direct false e by)) (known ∙ sym (of_number_is (number_in names) a v))
    ∙ ap (code_for (number_in names) a (Some (of_number v))) (same_form profile m false e (of_number v) by)
    ∙ forms.absolute_code profile m (number_in names) a v op by large found

unknown_coded : (profile : Profile) (m : Mnemonic) (names : Definitions) (a op : ℕ) (e : Term)
    (by : Index) → eval_of (number_in names) (pos a) e ≡ Err expression.UnknownName
    → opcode_of profile m (absolute_mode by) ≡ Some op
    → code_for (number_in names) a (Some e) (form_of profile m (direct false e by))
    ≡ Ok (as_coded op (absolute_mode by))
unknown_coded profile m names a op e by unknown found =
    far_coded (number_in names) a 256 e (form_of profile m (direct false e by)) (as_coded op (absolute_mode by)) unknown (omega arith)
    (ap (code_for (number_in names) a (Some (of_number 256))) (same_form profile m false e (of_number 256) by)
    ∙ forms.absolute_code profile m (number_in names) a 256 op by (λ h. omega arith) found)

label_coded : (profile : Profile) (m : Mnemonic) (names : Definitions) (a v op s : ℕ) (t : Tail)
    (by : Index) → s < 65536 → s + added t ≡ v → Near names
    → (has_row profile m (zero_page_mode by) ≡ true → 256 ≤ v)
    → opcode_of profile m (absolute_mode by) ≡ Some op
    → code_for (number_in names) a (Some (place_term s t)) (form_of profile m (direct false (place_term s t) by))
    ≡ Ok (as_coded op (absolute_mode by))
label_coded profile m names a v op s t by below adds near large found = elim (near s below) [
  | inl missing ↦ unknown_coded profile m names a op (place_term s t) by (place_unknown (number_in names) a s t missing) found
  | inr there ↦ known_coded profile m names a v op (place_term s t) by
      (place_known (number_in names) a s t below there ∙ ap (λ (n : ℕ). Ok (pos n)) adds) large found
]

module _ (table : List ℕ) (profile : Profile) (m : Mnemonic) (a op : ℕ) (here : a < 65536) where
  abbrev pub Is : List ℕ → List ℕ → Type 0
  Is text bytes = Stands Near (Final table) profile text a bytes

  last_label : (s v : ℕ) (t : Tail) → s < 65536 → s + added t ≡ v → 0 < reach_at table s → (numbers : Numbers) → Final table numbers
      → eval_of numbers (pos a) (place_term s t) ≡ Ok (pos v)
  last_label s v t below adds reaches numbers final = place_known numbers a s t below (final s below reaches) ∙ ap (λ (n : ℕ). Ok (pos n)) adds

  -- after ` ` or ` !`
  absolute_label : (by : Index) (b c s : ℕ) (t : Tail) → s + added t ≡ b + 256 * c → 0 < reach_at table s
      → opcode_of profile m (absolute_mode by) ≡ Some op → b < 256 → c < 256
      → Is (mnemonic_text m ++ (direct_front profile m (zero_page_mode by) (b + 256 * c)
      ++ ((label_text s ++ tail_text t) ++ ending_text (ending_of by)))) (op ∷ b ∷ c ∷ [])
  absolute_label by b c s t adds reaches found l h = on (nat_lt (b + 256 * c) 256 && has_row profile m (zero_page_mode by)) refl
    where
      below : s < 65536
      below = omega (arith, adds, word_below b c l h)

      named : Named profile m
      named = named_of_code profile m (absolute_mode by) op found

      on : (x : Bool) → (nat_lt (b + 256 * c) 256 && has_row profile m (zero_page_mode by)) ≡ x
          → Is (mnemonic_text m ++ ((if x then codes " !" else codes " ") ++ ((label_text s ++ tail_text t) ++ ending_text (ending_of by)))) (op ∷ b ∷ c ∷ [])
      on true e = long_stands Near (Final table) profile m a op by true (place_term s t) b c _ (marked_said profile m named s t by below)
          (λ names near. forms.marked_code profile m (number_in names) a op (place_term s t) by found) (last_label s (b + 256 * c) t below adds reaches) l h
      on false e = long_stands Near (Final table) profile m a op by false (place_term s t) b c _ (direct_said profile m named s t by below)
          (λ names near. label_coded profile m names a (b + 256 * c) op s t by below adds near
          (large_if (b + 256 * c) (has_row profile m (zero_page_mode by)) e) found) (last_label s (b + 256 * c) t below adds reaches) l h

  pointer_label : (b c s : ℕ) (t : Tail) → s + added t ≡ b + 256 * c → 0 < reach_at table s → opcode_of profile m Ind ≡ Some op → b < 256 → c < 256
      → Is (mnemonic_text m ++ (codes " (" ++ ((label_text s ++ tail_text t) ++ codes ")"))) (op ∷ b ∷ c ∷ [])
  pointer_label b c s t adds reaches found l h =
      let below : s < 65536 = omega (arith, adds, word_below b c l h) in
      far_pointer_stands Near (Final table) profile m a op (place_term s t) b c _
      (pointer_said profile m (named_of_code profile m Ind op found) s t below) found (last_label s (b + 256 * c) t below adds reaches) l h

  branch_label : (b s : ℕ) (t : Tail) → s + added t ≡ target_of a b → 0 < reach_at table s → opcode_of profile m Rel ≡ Some op → b < 256
      → Is (mnemonic_text m ++ (codes " " ++ (label_text s ++ tail_text t))) (op ∷ b ∷ [])
  branch_label b s t adds reaches found l =
      let target : target_of a b < 65536 = omega arith in
      let below : s < 65536 = omega (arith, adds, target) in
      branch_stands Near (Final table) profile m a op (place_term s t) b _
      (rw (append-nil (tail_text t)) at (direct_said profile m (named_of_code profile m Rel op found) s t Unindexed below)) found
      (last_label s (target_of a b) t below adds reaches) here l

  -- where an address has no label the line is that of a listing
  number_same : (x : Bool) (w : ℕ) (suffix : List ℕ) → (if x then codes " !" else codes " ") ++ (word_text w ++ suffix) ≡ 32
      ∷ ((if x then 33 ∷ word_text w else word_text w) ++ suffix)
  number_same true w suffix = refl
  number_same false w suffix = refl

  absolute : (by : Index) (b c : ℕ) → Is (mnemonic_text m ++ 32
      ∷ (absolute_text profile m (zero_page_mode by) (b + 256 * c) ++ ending_text (ending_of by))) (op ∷ b ∷ c ∷ [])
      → opcode_of profile m (absolute_mode by) ≡ Some op → b < 256 → c < 256
      → Is (direct_text profile table m (zero_page_mode by) (b + 256 * c) (ending_text (ending_of by))) (op ∷ b ∷ c ∷ [])
  absolute by b c listed found l h =
      by_place table (b + 256 * c) (λ x. Is (mnemonic_text m
      ++ (direct_front profile m (zero_page_mode by) (b + 256 * c) ++ (x ++ ending_text (ending_of by)))) (op ∷ b ∷ c ∷ []))
      (subst (λ (x : List ℕ). Is (mnemonic_text m ++ x) (op ∷ b ∷ c ∷ []))
      (sym (number_same (nat_lt (b + 256 * c) 256 && has_row profile m (zero_page_mode by)) (b + 256 * c) (ending_text (ending_of by)))) listed)
      (λ s t adds reaches. absolute_label by b c s t adds reaches found l h)

  listed : (mode : Mode) (b c : ℕ) → opcode_of profile m mode ≡ Some op → b < 256 → c < 256
      → Is (mnemonic_text m ++ operand_text profile m mode a b c) (take (length_in mode) (op ∷ b ∷ c ∷ []))
  listed = instruction_stands Near (Final table) profile m a op here

  pub labelled_stands : (mode : Mode) (b c : ℕ) → opcode_of profile m mode ≡ Some op → b < 256 → c < 256
      → Is (labelled_text profile table m a mode b c) (take (length_in mode) (op ∷ b ∷ c ∷ []))
  unfolding operand_text
  labelled_stands Imp b c found l h = listed Imp b c found l h
  labelled_stands Acc b c found l h = listed Acc b c found l h
  labelled_stands Imm b c found l h = listed Imm b c found l h
  labelled_stands Zp b c found l h = listed Zp b c found l h
  labelled_stands ZpX b c found l h = listed ZpX b c found l h
  labelled_stands ZpY b c found l h = listed ZpY b c found l h
  labelled_stands Abs b c found l h =
      absolute Unindexed b c (rw (append-nil (absolute_text profile m Zp (b + 256 * c))) (listed Abs b c found l h)) found l h
  labelled_stands AbsX b c found l h = absolute X b c (listed AbsX b c found l h) found l h
  labelled_stands AbsY b c found l h = absolute Y b c (listed AbsY b c found l h) found l h
  labelled_stands IndX b c found l h = listed IndX b c found l h
  labelled_stands IndY b c found l h = listed IndY b c found l h
  labelled_stands Ind b c found l h =
      by_place table (b + 256 * c) (λ x. Is (mnemonic_text m ++ (codes " (" ++ (x ++ codes ")"))) (op ∷ b ∷ c ∷ [])) (listed Ind b c found l h)
      (λ s t adds reaches. pointer_label b c s t adds reaches found l h)
  labelled_stands Rel b c found l h =
      by_place table (target_of a b) (λ x. Is (mnemonic_text m ++ (codes " " ++ x)) (op ∷ b ∷ [])) (listed Rel b c found l h)
      (λ s t adds reaches. branch_label b s t adds reaches found l)
  labelled_stands IndZ b c found l h = listed IndZ b c found l h

-- ---- the size of an instruction

front_size : (x : Bool) → length (if x then codes " !" else codes " ") ≤ 2
front_size true = omega arith
front_size false = omega arith

parts_size : (table : List ℕ) (m : Mnemonic) (front : List ℕ) (w : ℕ) (suffix : List ℕ)
    → length front ≤ 2 → length suffix ≤ 2
    → length (mnemonic_text m ++ (front ++ (place_text table w ++ suffix))) ≤ 15
parts_size table m front w suffix small few =
    omega (
      arith,
      length-append (mnemonic_text m) (front ++ (place_text table w ++ suffix)),
      length-append front (place_text table w ++ suffix),
      length-append (place_text table w) suffix,
      length-mnemonic_text m,
      place_size table w,
      small,
      few,
    )

direct_size : (profile : Profile) (table : List ℕ) (m : Mnemonic) (short : Mode) (w : ℕ)
    (suffix : List ℕ) → length suffix ≤ 2
    → length (direct_text profile table m short w suffix) ≤ 15
direct_size profile table m short w suffix few = parts_size table m (direct_front profile m short w) w suffix
    (front_size (nat_lt w 256 && has_row profile m short)) few

pub labelled_size : (profile : Profile) (table : List ℕ) (m : Mnemonic) (a : ℕ) (mode : Mode)
    (b c : ℕ) → length (labelled_text profile table m a mode b c) + 1 ≤ 13 * length_in mode
labelled_size profile table m a Imp b c = omega (arith, text_size profile m Imp a b c)
labelled_size profile table m a Acc b c = omega (arith, text_size profile m Acc a b c)
labelled_size profile table m a Imm b c = omega (arith, text_size profile m Imm a b c)
labelled_size profile table m a Zp b c = omega (arith, text_size profile m Zp a b c)
labelled_size profile table m a ZpX b c = omega (arith, text_size profile m ZpX a b c)
labelled_size profile table m a ZpY b c = omega (arith, text_size profile m ZpY a b c)
labelled_size profile table m a Abs b c = omega (arith, direct_size profile table m Zp (b + 256 * c) [] (omega arith))
labelled_size profile table m a AbsX b c = omega (arith, direct_size profile table m ZpX (b + 256 * c) (codes ",X") (omega arith))
labelled_size profile table m a AbsY b c = omega (arith, direct_size profile table m ZpY (b + 256 * c) (codes ",Y") (omega arith))
labelled_size profile table m a IndX b c = omega (arith, text_size profile m IndX a b c)
labelled_size profile table m a IndY b c = omega (arith, text_size profile m IndY a b c)
labelled_size profile table m a Ind b c = omega (arith, parts_size table m (codes " (") (b + 256 * c) (codes ")") (omega arith) (omega arith))
labelled_size profile table m a Rel b c =
    omega (arith, length-append (mnemonic_text m) (codes " " ++ place_text table (target_of a b)), length-mnemonic_text m, place_size table (target_of a b))
labelled_size profile table m a IndZ b c = omega (arith, text_size profile m IndZ a b c)

-- ---- a word

abbrev directive : Lexeme
directive = record { kind = Directive; start = 0; text = codes ".WORD" }

directive_first : (rest : List ℕ)
    → tokens_from 0 0 (46 ∷ 87 ∷ 79 ∷ 82 ∷ 68 ∷ 32 ∷ rest) ≡ before directive (tokens_from 6 0 rest)
unfolding tokens_from token_at
directive_first rest = refl

at_end : (p : ℕ) → tokens_from p 0 [] ≡ Some []
unfolding tokens_from
at_end p = refl

in_range_word : (w : ℕ) → w < 65535 → nat_lt w (2 ^ 31) ≡ true
in_range_word w below = lt-ltb w (2 ^ 31) (omega (arith, below))

word_again : (b c : ℕ) → b < 256 → c < 256 → word_piece (Ok (pos (b + 256 * c))) ≡ Ok (b ∷ c ∷ [])
unfolding word_piece
word_again b c l h =
    let n : (b + 256 * c) % 65536 ≡ b + 256 * c = omega (arith, l, h) in
    let low_byte : (b + 256 * c) % 256 ≡ b = omega (arith, l, h) in
    let high_byte : (b + 256 * c) / 256 ≡ c = omega (arith, l, h) in
    rw (le-ltb 65535 (b + 256 * c) (omega (arith, l, h)), n, low_byte, high_byte) refl

words_laid : (profile : Profile) (line : List ℕ) (e : Term) (a : ℕ) (names : Definitions)
    → read_line profile line ≡ Ok (labelled None (words (e ∷ [])))
    → layout_of (fixed_at profile a names) line
    ≡ Ok (placed_at a (word_list (e ∷ [])), fixed_at profile (a + 2) names)
unfolding layout_of named_line_at statement_at size_of
words_laid profile line e a names read = rw (read, append-nil names) refl

words_size : (e : Term) → size_of (word_list (e ∷ [])) ≡ 2
unfolding size_of
words_size e = refl

words_right : (numbers : Numbers) (a b c : ℕ) (e : Term)
    → word_piece (eval_of numbers (pos a) e) ≡ Ok (b ∷ c ∷ [])
    → (more : List (Option AsmFaultKind))
    → lowest (kinds_in (pieces_of numbers a (word_list (e ∷ []))) ++ more) ≡ lowest more
unfolding pieces_of lowest lower
words_right numbers a b c e piece more = rw piece refl

words_bytes : (numbers : Numbers) (a b c : ℕ) (e : Term)
    → word_piece (eval_of numbers (pos a) e) ≡ Ok (b ∷ c ∷ [])
    → line_bytes numbers (placed_at a (word_list (e ∷ []))) ≡ b ∷ c ∷ []
unfolding line_bytes pieces_of
words_bytes numbers a b c e piece = rw piece refl

words_stand : (table : List ℕ) (profile : Profile) (a b c : ℕ) (e : Term) (text : List ℕ)
    → read_line profile text ≡ Ok (labelled None (words (e ∷ [])))
    → ((numbers : Numbers) → Final table numbers → eval_of numbers (pos a) e ≡ Ok (pos (b + 256 * c)))
    → b < 256 → c < 256 → Stands Near (Final table) profile text a (b ∷ c ∷ [])
words_stand table profile a b c e text read last l h = record {
  content = word_list (e ∷ []);
  plain = read_plain profile text (labelled None (words (e ∷ []))) read;
  goes_on = rw read refl;
  laid = λ names near. words_laid profile text e a names read;
  size = words_size e;
  right = λ numbers final. words_right numbers a b c e (rw (last numbers final) (word_again b c l h));
  bytes_are = λ numbers final. words_bytes numbers a b c e (rw (last numbers final) (word_again b c l h));
}

label_words : (profile : Profile) (s : ℕ) (t : Tail)
    → line_of profile (directive ∷ place_tokens 6 s t ends)
    ≡ Some (labelled None (words (place_term s t ∷ [])))
unfolding line_of statement_of directive_of list_within expression_of
label_words profile s none = refl
label_words profile s one = refl
label_words profile s two = refl

number_words : (profile : Profile) (t : List ℕ) → line_of profile (directive ∷ number 6 t ∷ [])
    ≡ Some (labelled None (words (written t ∷ [])))
unfolding line_of statement_of directive_of list_within expression_of
number_words profile t = refl

free_words : (profile : Profile) (s : ℕ) (t : Tail)
    → line_reserves profile (labelled None (words (place_term s t ∷ []))) ≡ false
free_words profile s none = rw (free_label profile s) refl
free_words profile s one = rw (free_label profile s) refl
free_words profile s two = rw (free_label profile s) refl

word_label_said : (profile : Profile) (s : ℕ) (t : Tail) → s < 65536
    → read_line profile (codes ".WORD " ++ (label_text s ++ after_label t ends))
    ≡ Ok (labelled None (words (place_term s t ∷ [])))
unfolding read_line tokens_of
word_label_said profile s t below =
    let few : length (codes ".WORD " ++ (label_text s ++ after_label t ends)) ≤ 255 = omega (arith, after_size t ends) in
    rw (
      le-ltb 255 (length (codes ".WORD " ++ (label_text s ++ after_label t ends))) few,
      plain_place s t ends below,
      directive_first
          (label_text s ++ after_label t ends),
      place_found 6 s t ends below,
      label_words profile s t,
      free_words profile s t,
    ) refl

word_number_said : (profile : Profile) (w : ℕ) → w < 65536
    → read_line profile (codes ".WORD " ++ word_text w) ≡ Ok (labelled None (words (of_number w ∷ [])))
unfolding read_line tokens_of
word_number_said profile w below =
    let found : tokens_from 6 0 (word_text w) ≡ before (number 6 (word_text w)) (Some []) =
    address_first 6 _ _ _ _ _ _ _ _ [] (high (w / 256) (first_half w below)) (low (w / 256)) (high (w % 256) (last_half w)) (low (w % 256)) refl refl
    ∙ ap (before (number 6 (word_text w))) (at_end 11) in
    rw (
      (high (w / 256) (first_half w below)).source,
      (low (w / 256)).source,
      (high (w % 256) (last_half w)).source,
      (low (w % 256)).source,
      directive_first (word_text w),
      found,
      number_words profile (word_text w),
      word_number w below,
    ) refl

pub word_stands : (table : List ℕ) (profile : Profile) (a b c : ℕ) → b < 256 → c < 256
    → Stands Near (Final table) profile (codes ".WORD " ++ place_text table (b + 256 * c)) a (b ∷ c ∷ [])
word_stands table profile a b c l h =
    by_place table (b + 256 * c) (λ x. Stands Near (Final table) profile (codes ".WORD " ++ x) a (b ∷ c ∷ []))
    (words_stand table profile a b c (of_number (b + 256 * c)) _ (word_number_said profile (b + 256 * c) (word_below b c l h))
    (λ numbers final. of_number_is numbers a (b + 256 * c)) l h)
    (λ s t adds reaches.
    let below : s < 65536 = omega (arith, adds, word_below b c l h) in
    words_stand table profile a b c (place_term s t) _ (rw (append-nil (tail_text t)) at (word_label_said profile s t below))
    (λ numbers final. place_known numbers a s t below (final s below reaches) ∙ ap (λ (n : ℕ). Ok (pos n)) adds) l h)

-- ---- the word before an address

abbrev less : Term → Term
less e = binary Subtract e (literal (Some (pos 1)))

less_known : (numbers : Numbers) (a w : ℕ) (e : Term) → w < 65535
    → eval_of numbers (pos a) e ≡ Ok (pos (w + 1)) → eval_of numbers (pos a) (less e) ≡ Ok (pos w)
unfolding eval_of
less_known numbers a w e below known = on (knows numbers e) refl
  where
    on : (x : Bool) → knows numbers e ≡ x → eval_of numbers (pos a) (less e) ≡ Ok (pos w)
    on true k = let value : value_of numbers (pos a) e ≡ Ok (pos (w + 1)) = rw k at known in
        let first : nat_lt (w + 1) 1 ≡ false = le-ltb (w + 1) 1 (omega arith) in let one_less : (w + 1) - 1 ≡ w = omega arith in
        rw (k, value, first, one_less, in_range_word w below) refl
    on false k = let never : Err expression.UnknownName ≡ Ok (pos (w + 1)) = rw k at known in absurd cc

label_less : (profile : Profile) (s : ℕ) (t : Tail)
    → line_of profile (directive ∷ place_tokens 6 s t less_one)
    ≡ Some (labelled None (words (less (place_term s t) ∷ [])))
unfolding line_of statement_of directive_of list_within expression_of
label_less profile s none = refl
label_less profile s one = refl
label_less profile s two = refl

abbrev number_tokens : List ℕ → List Lexeme
number_tokens t = number 6 t ∷ symbol 11 45 ∷ number 12 (49 ∷ []) ∷ []

number_less : (profile : Profile) (t : List ℕ) → line_of profile (directive ∷ number_tokens t)
    ≡ Some (labelled None (words (less (written t) ∷ [])))
unfolding line_of statement_of directive_of list_within expression_of
number_less profile t = refl

free_less : (profile : Profile) (s : ℕ) (t : Tail)
    → line_reserves profile (labelled None (words (less (place_term s t) ∷ []))) ≡ false
free_less profile s none = rw (free_label profile s) refl
free_less profile s one = rw (free_label profile s) refl
free_less profile s two = rw (free_label profile s) refl

return_label_said : (profile : Profile) (s : ℕ) (t : Tail) → s < 65536
    → read_line profile (codes ".WORD " ++ (label_text s ++ after_label t less_one))
    ≡ Ok (labelled None (words (less (place_term s t) ∷ [])))
unfolding read_line tokens_of
return_label_said profile s t below =
    let few : length (codes ".WORD " ++ (label_text s ++ after_label t less_one)) ≤ 255 = omega (arith, after_size t less_one) in
    rw (
      le-ltb 255 (length (codes ".WORD " ++ (label_text s ++ after_label t less_one))) few,
      plain_place s t less_one below,
      directive_first
          (label_text s ++ after_label t less_one),
      place_found 6 s t less_one below,
      label_less profile s t,
      free_less profile s t,
    ) refl

minus_one : (p : ℕ) → tokens_from p 0 (codes "-1") ≡ Some (symbol p 45 ∷ number (p + 1) (49 ∷ []) ∷ [])
unfolding tokens_from token_at
minus_one p = refl

return_number_said : (profile : Profile) (w : ℕ) → w < 65536
    → read_line profile (codes ".WORD " ++ (word_text w ++ codes "-1"))
    ≡ Ok (labelled None (words (less (of_number w) ∷ [])))
unfolding read_line tokens_of
return_number_said profile w below =
    let found : tokens_from 6 0 (word_text w ++ codes "-1") ≡ Some (number_tokens (word_text w)) =
    address_first 6 _ _ _ _ _ _ _ _ (codes "-1") (high (w / 256) (first_half w below)) (low (w / 256)) (high (w % 256) (last_half w)) (low (w % 256))
    refl refl ∙ ap (before (number 6 (word_text w))) (minus_one 11) in
    rw (
      (high (w / 256) (first_half w below)).source,
      (low (w / 256)).source,
      (high (w % 256) (last_half w)).source,
      (low (w % 256)).source,
      directive_first (word_text w ++ codes "-1"),
      found,
      number_less profile (word_text w),
      word_number w below,
    ) refl

-- where the address is in memory, its word stands for the bytes of the address before it
pub return_stands : (table : List ℕ) (profile : Profile) (a b c : ℕ) → b < 256 → c < 256
    → b + 256 * c < 65535
    → Stands Near (Final table) profile (codes ".WORD " ++ (place_text table (b + 256 * c + 1) ++ codes "-1")) a (b ∷ c ∷ [])
return_stands table profile a b c l h small =
    by_place table (b + 256 * c + 1) (λ x. Stands Near (Final table) profile (codes ".WORD " ++ (x ++ codes "-1")) a (b ∷ c ∷ []))
    (words_stand table profile a b c (less (of_number (b + 256 * c + 1))) _ (return_number_said profile (b + 256 * c + 1) (omega (arith, small)))
    (λ numbers final. less_known numbers a (b + 256 * c) (of_number (b + 256 * c + 1)) small (of_number_is numbers a (b + 256 * c + 1))) l h)
    (λ s t adds reaches.
    let below : s < 65536 = omega (arith, adds, small) in
    words_stand table profile a b c (less (place_term s t)) _ (return_label_said profile s t below)
    (λ numbers final. less_known numbers a (b + 256 * c) (place_term s t) small
    (place_known numbers a s t below (final s below reaches) ∙ ap (λ (n : ℕ). Ok (pos n)) adds)) l h)
