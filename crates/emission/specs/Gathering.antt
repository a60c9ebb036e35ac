-- The bytes of one line, gathered from left to right.
use Rattle.std.specs.Prelude.{◌≡◌, ℕ, ℤ, pos, negsuc, ⊤, List, [], ◌∷◌, ◌++◌, map, Option, Some, None, Result, Ok, Err}
use Rattle.model.specs.State.{Map}
use Rattle.model.specs.Bytes.{BytesOrFault, lower, modulo, place_kinds, item_piece, pieces_of, within, word_bytes, word_bytes_high_first}
use Rattle.model.specs.Expression.{Term}
use Rattle.model.specs.Value.{Numbers, eval_of}
use Rattle.model.specs.declared.expression.ExprFault.{ExprFault}
use Rattle.model.specs.SourceLine.{Item}
use Rattle.model.specs.Layout.{◌>>>◌, PlacedLine, size_of}
use Rattle.model.specs.declared.source_fault.AsmFaultKind.{AsmFaultKind}
use Rattle.model.specs.declared.source_fault.AsmFaultKind.TheVariants.{WordRange}
use Rattle.emission.specs.declared.emit.ByteOrder.{ByteOrder}
use Rattle.emission.specs.declared.emit.ByteOrder.TheVariants.{LowFirst, HighFirst}
use Rattle.emission.specs.declared.emit.ExprBytes.{ExprBytes}
use Rattle.emission.specs.declared.emit.ExprBytes.TheVariants.{Nothing, Byte, Word}
use Rattle.line_parts.specs.declared.fault.LineError.{LineError}
use Rattle.line_parts.specs.declared.fault.LineError.TheVariants as errors

abbrev pub item_pieces : Numbers → ℕ → List Item → List BytesOrFault
item_pieces numbers address items = map (λ i. item_piece numbers address i) items

-- The pieces of some values, each made in this way.
abbrev pub value_pieces : (Result ℤ ExprFault → BytesOrFault) → Numbers → ℕ → List Term
    → List BytesOrFault
value_pieces piece numbers address es = map (λ e. piece (eval_of numbers (pos address) e)) es

-- A word's bytes in an order, and the bytes of a value of two bytes.
abbrev pub word_bytes_in : ByteOrder → ℕ → List ℕ
word_bytes_in LowFirst n = word_bytes n
word_bytes_in HighFirst n = word_bytes_high_first n

abbrev pub word_piece_in : ByteOrder → Result ℤ ExprFault → BytesOrFault
word_piece_in order r =
    within (negsuc 32767) (pos 65535) WordRange r >>> λ v. Ok (word_bytes_in order (modulo v 65536))

abbrev pub expr_bytes : ExprBytes → List ℕ
expr_bytes Nothing = []
expr_bytes (Byte b) = b ∷ []
expr_bytes (Word first second) = first ∷ second ∷ []

abbrev pub piece_view : Result ExprBytes AsmFaultKind → BytesOrFault
piece_view (Ok encoded) = Ok (expr_bytes encoded)
piece_view (Err kind) = Err kind

-- A line's bytes so far, and the lowest kind of its faults so far.
pub record Gathering : Type 0 where
  pub bytes : List ℕ
  pub kind : Option AsmFaultKind

abbrev pub nothing_gathered : Gathering
nothing_gathered = record { bytes = []; kind = None }

abbrev pub with_fault : Gathering → AsmFaultKind → Gathering
with_fault g kind = record { bytes = g.bytes; kind = lower g.kind (Some kind) }

-- A kind of fault, if there is one.
abbrev pub with_fault_if : Gathering → Option AsmFaultKind → Gathering
with_fault_if g kind = record { bytes = g.bytes; kind = lower g.kind kind }

abbrev pub with_faults : Gathering → List (Option AsmFaultKind) → Gathering
with_faults g [] = g
with_faults g (kind ∷ kinds) = with_faults (with_fault_if g kind) kinds

abbrev pub with_piece : Gathering → BytesOrFault → Gathering
with_piece g (Ok bytes) = record { bytes = g.bytes ++ bytes; kind = g.kind }
with_piece g (Err kind) = with_fault g kind

unfoldable pub with_pieces : Gathering → List BytesOrFault → Gathering
with_pieces g [] = g
with_pieces g (p ∷ ps) = with_pieces (with_piece g p) ps

-- All that is gathered of a line in its place.
abbrev pub line_gathering : Map → Numbers → List (Option ℕ) → PlacedLine → Gathering
line_gathering m numbers image p =
    with_faults (with_pieces nothing_gathered (pieces_of numbers p.address p.content))
    (place_kinds m image p.address (size_of p.content))

-- The result, and the image after it, are what a definition gives, unless memory runs out.
abbrev pub Stores : Result Unit LineError → List (Option ℕ) → Result (List (Option ℕ)) AsmFaultKind
    → Type 0
Stores (Ok u) image given = given ≡ Ok image
Stores (Err errors.Memory) image given = ⊤
Stores (Err (errors.Kind kind)) image given = given ≡ Err kind
