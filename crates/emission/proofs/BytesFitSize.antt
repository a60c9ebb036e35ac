-- A line's bytes are no more than its size, and lie in memory and off the port where it has no
-- fault.
use Rattle.std.proofs.Common.{◌≡◌, ℕ, suc, ◌+◌, ◌*◌, ◌≤◌, ◌<◌, ℤ, Bool, true, false, List, [], ◌∷◌, ◌++◌, map, length, Option, Some, None, Result, Ok, Err, refl, sym, ◌∙◌, ap, append-nil, length-append, arith}
use Rattle.std.specs.Prelude.{nat_lt, nat_le, ◌&&◌, ◌||◌, ◌%◌, ◌-ℤ◌, pos, if◌then◌else◌}
use Rattle.std.specs.List.{flat_map}
use Rattle.std.proofs.lemmas.Bool.{ltb-false, lt-ltb}
use Rattle.model.specs.State.{Map}
use Rattle.model.specs.Expression.{Term, here}
use Rattle.model.specs.FaultNames.{source_fault_number}
use Rattle.model.specs.Value.{Numbers, eval_of}
use Rattle.model.specs.Layout.{length_in, ◌>>>◌, PlacedLine, Content, no_bytes, byte_list, word_list, word_list_high_first, code, size_of, items_size}
use Rattle.model.specs.SourceLine.{Item, value, string}
use Rattle.model.specs.Bytes.{BytesOrFault, modulo, word_bytes, within, byte_piece, zero_page_piece, word_piece, address_piece, distance_piece, branch_piece, operand_piece, bytes_in, kinds_in, kind_if, lower, lowest, place_kinds, has_bytes, has_port, word_bytes_high_first, word_piece_high_first, item_piece, pieces_of, line_bytes, value_fault}
use Rattle.model.specs.declared.expression.ExprFault.{ExprFault}
use Rattle.model.specs.declared.instruction.Mode.{Mode}
use Rattle.model.specs.declared.instruction.Mode.TheVariants.{Imp, Acc, Imm, Zp, ZpX, ZpY, Abs, AbsX, AbsY, IndX, IndY, Ind, Rel, IndZ}
use Rattle.model.specs.declared.source_fault.AsmFaultKind.{AsmFaultKind}
use Rattle.model.specs.declared.source_fault.AsmFaultKind.TheVariants.{WordRange, BranchRange, PastEnd, Overlap, PortAddress}
use Rattle.emission.specs.Gathering.{Gathering, line_gathering}
use Rattle.emission.proofs.Gathers.{line_is, lowest-append}

abbrev sized : BytesOrFault → ℕ
sized p = length (bytes_in p)

-- ---- pieces

one_size : (f : ℤ → ℕ) (w : Result ℤ AsmFaultKind) → sized (w >>> λ v. Ok (f v ∷ [])) ≤ 1
one_size f (Ok v) = omega arith
one_size f (Err k) = omega arith

two_size : (f : ℤ → ℕ) (w : Result ℤ AsmFaultKind) → sized (w >>> λ v. Ok (word_bytes (f v))) ≤ 2
two_size f (Ok v) = omega arith
two_size f (Err k) = omega arith

two_size_high_first : (f : ℤ → ℕ) (w : Result ℤ AsmFaultKind) → sized (w >>> λ v. Ok (word_bytes_high_first (f v))) ≤ 2
two_size_high_first f (Ok v) = omega arith
two_size_high_first f (Err k) = omega arith

byte_size : (r : Result ℤ ExprFault) → sized (byte_piece r) ≤ 1
unfolding byte_piece
byte_size r = one_size (λ v. modulo v 256) _

zero_page_size : (r : Result ℤ ExprFault) → sized (zero_page_piece r) ≤ 1
unfolding zero_page_piece
zero_page_size r = one_size (λ v. modulo v 256) _

word_size : (r : Result ℤ ExprFault) → sized (word_piece r) ≤ 2
unfolding word_piece
word_size r = two_size (λ v. modulo v 65536) _

word_size_high_first : (r : Result ℤ ExprFault) → sized (word_piece_high_first r) ≤ 2
unfolding word_piece_high_first
word_size_high_first r = two_size_high_first (λ v. modulo v 65536) _

address_size : (r : Result ℤ ExprFault) → sized (address_piece r) ≤ 2
unfolding address_piece
address_size r = two_size (λ v. modulo v 65536) _

distance_size : (d : ℕ) → sized (distance_piece d) ≤ 1
distance_size d = by (nat_le d 127 || nat_le 65408 d)
  where
    by : (t : Bool) → sized (if t then Ok (d % 256 ∷ []) else Err BranchRange) ≤ 1
    by true = omega arith
    by false = omega arith

branch_by : (f : ℤ → ℕ) (w : Result ℤ AsmFaultKind) → sized (w >>> λ v. distance_piece (f v)) ≤ 1
branch_by f (Ok v) = distance_size (f v)
branch_by f (Err k) = omega arith

branch_size : (a : ℕ) (r : Result ℤ ExprFault) → sized (branch_piece a r) ≤ 1
unfolding branch_piece
branch_size a r = branch_by (λ v. modulo (v -ℤ pos (a + 2)) 65536) (within (pos 0) (pos 65535) WordRange r)

operand_size : (a : ℕ) (mode : Mode) (r : Result ℤ ExprFault) → 1 + sized (operand_piece a mode r) ≤ length_in mode
unfolding operand_piece
operand_size a Imp r = omega arith
operand_size a Acc r = omega arith
operand_size a Imm r = omega (arith, byte_size r)
operand_size a Zp r = omega (arith, zero_page_size r)
operand_size a ZpX r = omega (arith, zero_page_size r)
operand_size a ZpY r = omega (arith, zero_page_size r)
operand_size a Abs r = omega (arith, address_size r)
operand_size a AbsX r = omega (arith, address_size r)
operand_size a AbsY r = omega (arith, address_size r)
operand_size a IndX r = omega (arith, zero_page_size r)
operand_size a IndY r = omega (arith, zero_page_size r)
operand_size a Ind r = omega (arith, address_size r)
operand_size a Rel r = omega (arith, branch_size a r)
operand_size a IndZ r = omega (arith, zero_page_size r)

items_fit : (numbers : Numbers) (a : ℕ) (is : List Item) → length (flat_map bytes_in (map (λ i. item_piece numbers a i) is)) ≤ items_size is
items_fit numbers a [] = omega arith
items_fit numbers a (value e ∷ is) = rw length-append (omega (arith, byte_size (eval_of numbers (pos a) e), items_fit numbers a is))
items_fit numbers a (string text ∷ is) = rw length-append (omega (arith, items_fit numbers a is))

words_size : (f : Term → BytesOrFault) → ((e : Term) → sized (f e) ≤ 2) → (es : List Term) → length (flat_map bytes_in (map f es)) ≤ 2 * length es
words_size f small [] = omega arith
words_size f small (e ∷ es) = rw length-append (omega (arith, small e, words_size f small es))

code_size : (p : BytesOrFault) → suc (length (bytes_in p ++ [])) ≡ suc (sized p)
code_size p = ap (λ (x : List ℕ). suc (length x)) (append-nil (bytes_in p))

content_size : (numbers : Numbers) (a : ℕ) (content : Content) → length (flat_map bytes_in (pieces_of numbers a content)) ≤ size_of content
unfolding pieces_of size_of
content_size numbers a no_bytes = omega arith
content_size numbers a (byte_list is) = items_fit numbers a is
content_size numbers a (word_list es) = words_size (λ (e : Term). word_piece (eval_of numbers (pos a) e)) (λ e. word_size (eval_of numbers (pos a) e)) es
content_size numbers a (word_list_high_first es) = words_size (λ (e : Term). word_piece_high_first (eval_of numbers (pos a) e))
    (λ e. word_size_high_first (eval_of numbers (pos a) e)) es
content_size numbers a (code opcode mode None) = omega (arith, operand_size a mode (eval_of numbers (pos a) here))
content_size numbers a (code opcode mode (Some e)) = omega (
  arith,
  operand_size a mode (eval_of numbers (pos a) e),
  code_size
      (operand_piece a mode (eval_of numbers (pos a) e)),
)

pub line_size : (numbers : Numbers) (p : PlacedLine) → length (line_bytes numbers p) ≤ size_of p.content
unfolding line_bytes
line_size numbers p = content_size numbers p.address p.content

-- ---- places

lower_none : (a b : Option AsmFaultKind) → lower a b ≡ None → (a ≡ None) × (b ≡ None)
unfolding lower
lower_none None b h = (refl, h)
lower_none (Some a) None h = cc
lower_none (Some a) (Some b) h = by (nat_le (source_fault_number a) (source_fault_number b)) h
  where
    by : (t : Bool) → (if t then Some a else Some b) ≡ None → (Some a ≡ None) × (Some b ≡ None)
    by true h = cc
    by false h = cc

kind_none : (t : Bool) (k : AsmFaultKind) → kind_if t k ≡ None → t ≡ false
kind_none true k h = cc
kind_none false k h = refl

pub record IsPlaced (m : Map) (image : List (Option ℕ)) (p : PlacedLine) : Type 0 where
  pub past : (nat_lt 0 (size_of p.content) && nat_lt 65536 (p.address + size_of p.content)) ≡ false
  pub port : has_port m p.address (size_of p.content) ≡ false

pub placed_right : (m : Map) (numbers : Numbers) (image : List (Option ℕ)) (p : PlacedLine) → value_fault m numbers image p ≡ None → IsPlaced m image p
unfolding value_fault place_kinds lowest
placed_right m numbers image p right =
    let size = size_of p.content in
    let places = place_kinds m image p.address size in
    let split : lower (lowest (kinds_in (pieces_of numbers p.address p.content))) (lowest places) ≡ None =
    sym (lowest-append (kinds_in (pieces_of numbers p.address p.content)) places) ∙ right in
    let first = lower_none _ (lowest places) split in
    let second = lower_none (kind_if (nat_lt 0 size && nat_lt 65536 (p.address + size)) PastEnd) _ first.1 in
    let third = lower_none (kind_if (has_bytes image p.address size) Overlap) _ second.1 in
    let last = lower_none (kind_if (has_port m p.address size) PortAddress) None third.1 in
    record { past = kind_none _ PastEnd second.0; port = kind_none _ PortAddress last.0 }

not_past : (a s n : ℕ) → (nat_lt 0 s && nat_lt 65536 (a + s)) ≡ false → n ≤ s → 0 < n → a + n ≤ 65536
not_past a s n past small some =
    let there : nat_lt 0 s ≡ true = lt-ltb 0 s (omega arith) in
    let behind : nat_lt 65536 (a + s) ≡ false = rw there at past in
    omega (arith, ltb-false 65536 (a + s) behind)

-- the bytes of a line without a fault have room
pub line_room : (m : Map) (numbers : Numbers) (image : List (Option ℕ)) (p : PlacedLine) (g : Gathering) → g ≡ line_gathering m numbers image p → g.kind ≡ None
    → 0 < length g.bytes → p.address + length g.bytes ≤ 65536
line_room m numbers image p g is met some =
    let right : value_fault m numbers image p ≡ None = sym (ap (λ (x : Gathering). x.kind) (is ∙ line_is m numbers image p)) ∙ met in
    let bytes : g.bytes ≡ line_bytes numbers p = ap (λ (x : Gathering). x.bytes) (is ∙ line_is m numbers image p) in
    let small : length g.bytes ≤ size_of p.content = rw bytes (line_size numbers p) in
    not_past p.address (size_of p.content) (length g.bytes) (placed_right m numbers image p right).past small some
