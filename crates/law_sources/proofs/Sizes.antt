-- A line's bytes are as many as its size.
use Rattle.std.proofs.Common.{◌≡◌, ℕ, suc, ◌+◌, ◌*◌, ℤ, Bool, true, false, cond, List, [], ◌∷◌, ◌++◌, map, length, Option, Some, None, Result, Ok, Err, refl, sym, ◌∙◌, ap, subst, append-nil, length-append, arith}
use Rattle.std.specs.Prelude.{⊤, nat_le, ◌||◌, ◌%◌, ◌-ℤ◌, pos, if◌then◌else◌, option_map}
use Rattle.std.specs.List.{flat_map}
use Rattle.model.specs.OpcodeTable.{opcode_of}
use Rattle.model.specs.Expression.{Term}
use Rattle.model.specs.FaultNames.{source_fault_number}
use Rattle.model.specs.Value.{Numbers, eval_of}
use Rattle.model.specs.Names.{number_in}
use Rattle.model.specs.SourceLine.{Operand, absent, accumulator, immediate, direct, pointer, pointer_by_x, pointer_by_y, Item, value, string, Statement, nothing, origin, bytes, words, words_high_first, reserve, finish, instruction, Line, labelled, definition, read_line}
use Rattle.model.specs.Layout.{◌>>>◌, length_in, Encoding, one, form_of, term_of, code_for, Content, no_bytes, byte_list, word_list, word_list_high_first, code, items_size, size_of, PlacedAndNext, empty_and_next, placing_value, in_memory, after_room, placed_and_next, statement_at, Context, name_of, label_at, PlacedAndContext, placed_and_context, line_at, is_defined, is_full, unless_full, named_line_at, layout_of}
use Rattle.model.specs.Bytes.{BytesOrFault, modulo, within, word_bytes, word_bytes_high_first, byte_piece, zero_page_piece, word_piece, word_piece_high_first, address_piece, distance_piece, branch_piece, operand_piece, item_piece, pieces_of, bytes_in, kind_in, kinds_in, line_bytes, lower, lowest, place_kinds, value_fault, BytesFillTheirSize}
use Rattle.model.specs.declared.expression.ExprFault.{ExprFault}
use Rattle.model.specs.declared.instruction.Profile.{Profile}
use Rattle.model.specs.declared.instruction.Mnemonic.{Mnemonic}
use Rattle.model.specs.declared.instruction.Mode.{Mode}
use Rattle.model.specs.declared.instruction.Mode.TheVariants.{Imp, Acc, Imm, Zp, ZpX, ZpY, Abs, AbsX, AbsY, IndX, IndY, Ind, Rel, IndZ}
use Rattle.model.specs.declared.source_fault.AsmFaultKind.{AsmFaultKind}
use Rattle.model.specs.declared.source_fault.AsmFaultKind.TheVariants.{WordRange, BranchRange, DuplicateName}

-- ---- pieces without a fault

abbrev IsRight : BytesOrFault → Type 0
IsRight p = kind_in p ≡ None

abbrev sized : BytesOrFault → ℕ
sized p = length (bytes_in p)

one_size : (f : ℤ → ℕ) (w : Result ℤ AsmFaultKind) → IsRight (w >>> λ v. Ok (f v ∷ []))
    → sized (w >>> λ v. Ok (f v ∷ [])) ≡ 1
one_size f (Ok v) h = refl
one_size f (Err k) h = cc

two_size : (f : ℤ → ℕ) (w : Result ℤ AsmFaultKind) → IsRight (w >>> λ v. Ok (word_bytes (f v)))
    → sized (w >>> λ v. Ok (word_bytes (f v))) ≡ 2
two_size f (Ok v) h = refl
two_size f (Err k) h = cc

two_size_high_first : (f : ℤ → ℕ) (w : Result ℤ AsmFaultKind)
    → IsRight (w >>> λ v. Ok (word_bytes_high_first (f v)))
    → sized (w >>> λ v. Ok (word_bytes_high_first (f v))) ≡ 2
two_size_high_first f (Ok v) h = refl
two_size_high_first f (Err k) h = cc

byte_size : (r : Result ℤ ExprFault) → IsRight (byte_piece r) → sized (byte_piece r) ≡ 1
unfolding byte_piece
byte_size r h = one_size (λ v. modulo v 256) _ h

zero_page_size : (r : Result ℤ ExprFault) → IsRight (zero_page_piece r)
    → sized (zero_page_piece r) ≡ 1
unfolding zero_page_piece
zero_page_size r h = one_size (λ v. modulo v 256) _ h

word_size : (r : Result ℤ ExprFault) → IsRight (word_piece r) → sized (word_piece r) ≡ 2
unfolding word_piece
word_size r h = two_size (λ v. modulo v 65536) _ h

word_size_high_first : (r : Result ℤ ExprFault) → IsRight (word_piece_high_first r)
    → sized (word_piece_high_first r) ≡ 2
unfolding word_piece_high_first
word_size_high_first r h = two_size_high_first (λ v. modulo v 65536) _ h

address_size : (r : Result ℤ ExprFault) → IsRight (address_piece r) → sized (address_piece r) ≡ 2
unfolding address_piece
address_size r h = two_size (λ v. modulo v 65536) _ h

distance_size : (d : ℕ) → IsRight (distance_piece d) → sized (distance_piece d) ≡ 1
distance_size d h = by (nat_le d 127 || nat_le 65408 d) h
  where
    by : (t : Bool) → IsRight (if t then Ok (d % 256 ∷ []) else Err BranchRange) → sized (if t then Ok (d % 256 ∷ []) else Err BranchRange) ≡ 1
    by true k = refl
    by false k = cc

branch_by : (f : ℤ → ℕ) (w : Result ℤ AsmFaultKind) → IsRight (w >>> λ v. distance_piece (f v))
    → sized (w >>> λ v. distance_piece (f v)) ≡ 1
branch_by f (Ok v) h = distance_size (f v) h
branch_by f (Err k) h = cc

branch_size : (a : ℕ) (r : Result ℤ ExprFault) → IsRight (branch_piece a r)
    → sized (branch_piece a r) ≡ 1
unfolding branch_piece
branch_size a r h = branch_by (λ v. modulo (v -ℤ pos (a + 2)) 65536) (within (pos 0) (pos 65535) WordRange r) h

operand_size : (a : ℕ) (mode : Mode) (r : Result ℤ ExprFault) → IsRight (operand_piece a mode r)
    → 1 + sized (operand_piece a mode r) ≡ length_in mode
unfolding operand_piece
operand_size a Imp r h = refl
operand_size a Acc r h = refl
operand_size a Imm r h = ap (λ n. 1 + n) (byte_size r h)
operand_size a Zp r h = ap (λ n. 1 + n) (zero_page_size r h)
operand_size a ZpX r h = ap (λ n. 1 + n) (zero_page_size r h)
operand_size a ZpY r h = ap (λ n. 1 + n) (zero_page_size r h)
operand_size a Abs r h = ap (λ n. 1 + n) (address_size r h)
operand_size a AbsX r h = ap (λ n. 1 + n) (address_size r h)
operand_size a AbsY r h = ap (λ n. 1 + n) (address_size r h)
operand_size a IndX r h = ap (λ n. 1 + n) (zero_page_size r h)
operand_size a IndY r h = ap (λ n. 1 + n) (zero_page_size r h)
operand_size a Ind r h = ap (λ n. 1 + n) (address_size r h)
operand_size a Rel r h = ap (λ n. 1 + n) (branch_size a r h)
operand_size a IndZ r h = ap (λ n. 1 + n) (zero_page_size r h)

-- ---- contents

abbrev AreRight : List BytesOrFault → Type 0
AreRight [] = ⊤
AreRight (p ∷ ps) = IsRight p × AreRight ps

-- an opcode without an operand is one byte
abbrev IsWhole : Content → Type 0
IsWhole no_bytes = ⊤
IsWhole (byte_list items) = ⊤
IsWhole (word_list es) = ⊤
IsWhole (word_list_high_first es) = ⊤
IsWhole (code opcode mode None) = length_in mode ≡ 1
IsWhole (code opcode mode (Some e)) = ⊤

items_fill : (numbers : Numbers) (a : ℕ) (is : List Item)
    → AreRight (map (λ i. item_piece numbers a i) is)
    → length (flat_map bytes_in (map (λ i. item_piece numbers a i) is)) ≡ items_size is
items_fill numbers a [] h = refl
items_fill numbers a (value e ∷ is) h = rw length-append (omega (arith, byte_size (eval_of numbers (pos a) e) h.0, items_fill numbers a is h.1))
items_fill numbers a (string text ∷ is) h = rw length-append (omega (arith, items_fill numbers a is h.1))

words_fill : (f : Term → BytesOrFault) → ((e : Term) → IsRight (f e) → sized (f e) ≡ 2)
    → (es : List Term) → AreRight (map f es) → length (flat_map bytes_in (map f es)) ≡ 2 * length es
words_fill f two [] h = refl
words_fill f two (e ∷ es) h = rw length-append (omega (arith, two e h.0, words_fill f two es h.1))

code_size : (p : BytesOrFault) → suc (length (bytes_in p ++ [])) ≡ suc (sized p)
code_size p = ap (λ (x : List ℕ). suc (length x)) (append-nil (bytes_in p))

content_fills : (numbers : Numbers) (a : ℕ) (content : Content) → IsWhole content
    → AreRight (pieces_of numbers a content)
    → length (flat_map bytes_in (pieces_of numbers a content)) ≡ size_of content
unfolding pieces_of size_of
content_fills numbers a no_bytes w h = refl
content_fills numbers a (byte_list is) w h = items_fill numbers a is h
content_fills numbers a (word_list es) w h = words_fill (λ (e : Term). word_piece (eval_of numbers (pos a) e))
    (λ e k. word_size (eval_of numbers (pos a) e) k) es h
content_fills numbers a (word_list_high_first es) w h = words_fill (λ (e : Term). word_piece_high_first (eval_of numbers (pos a) e))
    (λ e k. word_size_high_first (eval_of numbers (pos a) e) k) es h
content_fills numbers a (code opcode mode None) w h = sym w
content_fills numbers a (code opcode mode (Some e)) w h =
    let size = operand_size a mode (eval_of numbers (pos a) e) h.1.0 in
    omega (arith, size, code_size (operand_piece a mode (eval_of numbers (pos a) e)))

-- ---- no fault among some

abbrev Kind : Type 0
Kind = Option AsmFaultKind

chosen : (b : Bool) (x y : AsmFaultKind) → cond b (Some x) (Some y) ≡ None → ⊥
chosen true x y h = cc
chosen false x y h = cc

neither : (x y : Kind) → lower x y ≡ None → (x ≡ None) × (y ≡ None)
unfolding lower
neither None y h = (refl, h)
neither (Some x) None h = cc
neither (Some x) (Some y) h = absurd (chosen (nat_le (source_fault_number x) (source_fault_number y)) x y h)

all_right : (pieces : List BytesOrFault) (others : List Kind)
    → lowest (kinds_in pieces ++ others) ≡ None → AreRight pieces
unfolding lowest
all_right [] others h = tt
all_right (p ∷ pieces) others h = let parts = neither (kind_in p) (lowest (kinds_in pieces ++ others)) h in (parts.0, all_right pieces others parts.1)

-- ---- what is laid out is whole

abbrev right : (A : Type 0) → A → Result A AsmFaultKind
right A a = Ok a

bind_ok : {A B : Type 0} (r : Result A AsmFaultKind) (f : A → Result B AsmFaultKind) (b : B)
    → r >>> f ≡ Ok b → (a : A) × (r ≡ Ok a) × (f a ≡ Ok b)
bind_ok (Ok a) f b h = (a, refl, h)
bind_ok (Err e) f b h = cc

ok_same : {A : Type 0} (x y : A) → right A x ≡ Ok y → x ≡ y
ok_same x y h = cc

abbrev IsWholePlace : PlacedAndNext → Type 0
IsWholePlace place = IsWhole place.0.content

of_place : (x y : PlacedAndNext) → right PlacedAndNext x ≡ Ok y → IsWholePlace x → IsWholePlace y
of_place x y h w = subst IsWholePlace (ok_same x y h) w

only_by : (numbers : Numbers) (address : ℕ) (opcode : Option ℕ) (mode : Mode) (c : Encoding)
    → length_in mode ≡ 1
    → code_for numbers address None (option_map one (option_map (λ o. record { opcode = o; mode = mode }) opcode)) ≡ Ok c → length_in c.mode ≡ 1
only_by numbers address (Some opcode) mode c short h = ap (λ (x : Encoding). length_in x.mode)
    (sym (ok_same (record { opcode = opcode; mode = mode }) c h)) ∙ short
only_by numbers address None mode c short h = cc

code_whole : (profile : Profile) (numbers : Numbers) (address : ℕ) (m : Mnemonic)
    (operand : Operand) (c : Encoding) → code_for numbers address (term_of operand)
    (form_of profile m operand) ≡ Ok c
    → IsWhole (code c.opcode c.mode (term_of operand))
unfolding form_of
code_whole profile numbers address m absent c h = only_by numbers address (opcode_of profile m Imp) Imp c refl h
code_whole profile numbers address m accumulator c h = only_by numbers address (opcode_of profile m Acc) Acc c refl h
code_whole profile numbers address m (immediate e) c h = tt
code_whole profile numbers address m (direct marked e by) c h = tt
code_whole profile numbers address m (pointer e) c h = tt
code_whole profile numbers address m (pointer_by_x e) c h = tt
code_whole profile numbers address m (pointer_by_y e) c h = tt

laid_whole : (profile : Profile) (numbers : Numbers) (address : ℕ) (s : Statement)
    (place : PlacedAndNext) → statement_at profile numbers address s ≡ Ok place → IsWholePlace place
unfolding statement_at
laid_whole profile numbers address nothing place h = of_place _ place h tt
laid_whole profile numbers address (origin e) place h =
    let v = bind_ok (placing_value (eval_of numbers (pos address) e)) _ place h in
    let n = bind_ok (in_memory v.0) _ place v.2 in
    of_place (empty_and_next address n.0) place n.2 tt
laid_whole profile numbers address (bytes items) place h = of_place _ place h tt
laid_whole profile numbers address (words es) place h = of_place _ place h tt
laid_whole profile numbers address (words_high_first es) place h = of_place _ place h tt
laid_whole profile numbers address (reserve e) place h =
    let v = bind_ok (placing_value (eval_of numbers (pos address) e)) _ place h in
    let n = bind_ok (after_room address v.0) _ place v.2 in
    of_place (empty_and_next address n.0) place n.2 tt
laid_whole profile numbers address finish place h = of_place _ place h tt
laid_whole profile numbers address (instruction m operand) place h =
    let c = bind_ok (code_for numbers address (term_of operand) (form_of profile m operand)) _ place h in
    of_place (placed_and_next address (code c.0.opcode c.0.mode (term_of operand))) place c.2 (code_whole profile numbers address m operand c.0 c.1)

abbrev IsWholeStanding : PlacedAndContext → Type 0
IsWholeStanding x = IsWhole x.0.content

of_standing : (x y : PlacedAndContext) → right PlacedAndContext x ≡ Ok y → IsWholeStanding x
    → IsWholeStanding y
of_standing x y h w = subst IsWholeStanding (ok_same x y h) w

line_at_whole : (before : Context) (l : Line) (x : PlacedAndContext) → line_at before l ≡ Ok x
    → IsWholeStanding x
line_at_whole before (labelled label s) x h =
    let numbers = number_in (before.names ++ label_at before.address label) in
    let place = bind_ok (statement_at before.profile numbers before.address s) _ x h in
    of_standing (placed_and_context before.profile (before.names ++ label_at before.address label) place.0) x place.2
    (laid_whole before.profile numbers before.address s place.0 place.1)
line_at_whole before (definition name e) x h =
    let v = bind_ok (placing_value (eval_of (number_in before.names) (pos before.address) e)) _ x h in
    of_standing (placed_and_context before.profile (before.names ++ (name, v.0) ∷ []) (empty_and_next before.address before.address)) x v.2 tt

unless_full_ok : (full : Bool) (r : Result PlacedAndContext AsmFaultKind) (x : PlacedAndContext)
    → unless_full full r ≡ Ok x → r ≡ Ok x
unless_full_ok false r x h = h
unless_full_ok true (Ok a) x h = cc
unless_full_ok true (Err k) x h = cc

fixed_by : (defined full : Bool) (r : Result PlacedAndContext AsmFaultKind) (x : PlacedAndContext)
    → cond defined (Err DuplicateName) (unless_full full r) ≡ Ok x → r ≡ Ok x
fixed_by true full r x h = cc
fixed_by false full r x h = unless_full_ok full r x h

line_fixed_whole : (before : Context) (l : Line) (x : PlacedAndContext)
    → named_line_at before l ≡ Ok x → IsWholeStanding x
unfolding named_line_at
line_fixed_whole before l x h = line_at_whole before l x (fixed_by (is_defined before.names (name_of l)) (is_full before.names (name_of l))
    (line_at before l) x h)

layout_whole : (before : Context) (line : List ℕ) (x : PlacedAndContext)
    → layout_of before line ≡ Ok x → IsWholeStanding x
unfolding layout_of
layout_whole before line x h = let l = bind_ok (read_line before.profile line) _ x h in line_fixed_whole before l.0 x l.2

pub bytes_fill : BytesFillTheirSize
unfolding value_fault line_bytes
bytes_fill bus_map numbers image before next line p statement_at none =
    content_fills numbers p.address p.content (layout_whole before line (p, next) statement_at)
    (all_right (pieces_of numbers p.address p.content) (place_kinds bus_map image p.address (size_of p.content)) none)
