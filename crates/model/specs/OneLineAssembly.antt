-- What one line denotes at an address, in a source without names. Source: mos65.
use Rattle.std.specs.Prelude.{ℕ, ◌+◌, nat_le, Bool, true, false, ◌&&◌, not, if◌then◌else◌, List, [], ◌∷◌, ◌++◌, Some, None, Result, Ok, Err}
use Rattle.model.specs.declared.instruction.Profile.{Profile}
use Rattle.model.specs.declared.source_fault.AsmFaultKind.{AsmFaultKind}
use Rattle.model.specs.declared.source_fault.AsmFaultKind.TheVariants.{NotOneLine, PastEnd}
use Rattle.model.specs.Layout.{◌>>>◌, Context, PlacedLine, size_of, unless, named_line_at}
use Rattle.model.specs.Bytes.{kind_if, kinds_in, lowest, line_bytes, pieces_of}
use Rattle.model.specs.Value.{Numbers}
use Rattle.model.specs.Names.{number_in}
use Rattle.model.specs.SourceLine.{Statement, nothing, origin, bytes, words, words_high_first, reserve, finish, instruction, Line, labelled, definition, read_line}

-- A statement that may be alone.
abbrev pub may_stand_alone : Statement → Bool
may_stand_alone nothing = false
may_stand_alone (origin e) = false
may_stand_alone (bytes items) = true
may_stand_alone (words es) = true
may_stand_alone (words_high_first es) = true
may_stand_alone (reserve e) = false
may_stand_alone finish = false
may_stand_alone (instruction m operand) = true

-- No label, no definition, and a statement that may be alone.
abbrev pub is_one_line : Line → Bool
is_one_line (labelled None s) = may_stand_alone s
is_one_line (labelled (Some name) s) = false
is_one_line (definition name e) = false

-- No name has a number.
abbrev pub no_numbers : Numbers
no_numbers = number_in []

abbrev pub context_at : Profile → ℕ → Context
context_at profile address = record { profile = profile; address = address; names = [] }

-- The bytes of a line in its place, at most 3; or its value fault. Neither a port nor another line
-- can be in its way.
abbrev pub bytes_alone : PlacedLine → Result (List ℕ) AsmFaultKind
bytes_alone p =
    unless (lowest (kinds_in (pieces_of no_numbers p.address p.content)
    ++ kind_if (not (nat_le (p.address + size_of p.content) 65536)) PastEnd ∷ []))
    (Ok (line_bytes no_numbers p))

-- Whether it has 1 to 3 bytes.
abbrev pub is_short : Line → PlacedLine → Bool
is_short l p = is_one_line l && nat_le (size_of p.content) 3

-- The bytes that a text denotes at an address, or its fault. Layout faults come before NotOneLine,
-- and that before value faults.
unfoldable pub one_line : Profile → ℕ → List ℕ → Result (List ℕ) AsmFaultKind
one_line profile address text =
    read_line profile text >>> λ l. named_line_at (context_at profile address) l >>> λ q.
    if is_short l q.0 then bytes_alone q.0 else Err NotOneLine
