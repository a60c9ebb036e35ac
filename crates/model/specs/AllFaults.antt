-- All faults of a source at once, so that one reading names each line to mend. Source: mos65.
--
-- The lines are judged one after another, and a line with a fault is mended so that the lines after
-- it can be judged too. Nobody knows how it will be mended. So all lines are judged twice. In the
-- first judgement the mended lines are as small as can be: none has a byte, and the name that a
-- mended line begins with is 0. In the second one each has 3 bytes, as the longest instruction, and
-- that name has no number. A line is told if it has the same fault in both: then the fault does not
-- hang on how the others are mended. The faults of the layout are told before those of values, as
-- the assembler meets them.
use Rattle.std.specs.Prelude.{ℕ, ℤ, pos, ◌+◌, ◌==◌, nat_lt, nat_le, Bool, true, false, not, ◌&&◌, ◌||◌, if◌then◌else◌, List, [], ◌∷◌, ◌++◌, length, take, drop, Option, Some, None, is_some, Result, Ok, Err}
use Rattle.std.specs.List.{prefix_len}
use Rattle.model.specs.State.{Map}
use Rattle.model.specs.Image.{empty_image, with_bytes}
use Rattle.model.specs.declared.source_fault.AsmFault.{AsmFault}
use Rattle.model.specs.declared.source_fault.AsmFaultKind.{AsmFaultKind}
use Rattle.model.specs.declared.source_fault.AsmFaultKind.TheVariants.{TooLarge}
use Rattle.model.specs.FaultNames.{source_fault_number}
use Rattle.model.specs.Token.{is_blank, is_word_byte}
use Rattle.model.specs.Value.{Numbers}
use Rattle.model.specs.Names.{Definitions, number_in}
use Rattle.model.specs.SourceLine.{Statement, nothing, origin, bytes, words, words_high_first, reserve, finish, instruction, Line, labelled, definition, read_line}
use Rattle.model.specs.Layout.{Context, PlacedLine, PlacedAndContext, no_bytes, is_defined, layout_of}
use Rattle.model.specs.Bytes.{line_bytes, value_fault}
use Rattle.model.specs.Source.{most_bytes, first_context, read_lines}

-- ---- a line with a fault, mended

-- How lines are mended: how many bytes each has, and whether the name that it begins with is 0 or
-- has no number.
pub record Mending : Type 0 where
  pub bytes : ℕ
  pub numbered : Bool

abbrev pub smallest : Mending
smallest = record { bytes = 0; numbered = true }

abbrev pub largest : Mending
largest = record { bytes = 3; numbered = false }

abbrev pub word_at : List ℕ → List ℕ
word_at line = take (prefix_len is_word_byte line) line

-- The letters, digits and `_` that a line begins with after blanks: its label, or the name that it
-- defines, if it has one.
unfoldable pub first_word : List ℕ → List ℕ
first_word line = word_at (drop (prefix_len is_blank line) line)

-- The names after a line that was read and has a fault: its label is defined at its address, unless
-- an earlier line defines it.
unfoldable pub names_left : Context → Line → Definitions
names_left before (labelled None s) = before.names
names_left before (labelled (Some name) s) = if is_defined before.names (Some name)
    then before.names else before.names ++ (name, pos before.address) ∷ []
names_left before (definition name e) = before.names

abbrev pub names_read : Context → Result Line AsmFaultKind → Definitions
names_read before (Ok l) = names_left before l
names_read before (Err kind) = before.names

-- The names with a line's first word as 0, unless it has a number.
unfoldable pub with_word : Bool → List ℕ → Definitions → Definitions
with_word numbered word names = if numbered && not (is_defined names (Some word))
    then names ++ (word, pos 0) ∷ [] else names

-- What is fixed after a mended line.
unfoldable pub mended : Mending → Context → List ℕ → Context
mended m before line = record {
  profile = before.profile;
  address = before.address + m.bytes;
  names
      = with_word m.numbered (first_word line) (names_read before (read_line before.profile line));
}

-- ---- the layout of all lines

-- What is found of a line: its layout fault, if it has one, its place, without bytes where it has
-- one, and whether it is a `*=`.
pub record Found : Type 0 where
  pub kind : Option AsmFaultKind
  pub place : PlacedLine
  pub begins : Bool

abbrev pub is_origin : Statement → Bool
is_origin (origin e) = true
is_origin nothing = false
is_origin (bytes items) = false
is_origin (words es) = false
is_origin (words_high_first es) = false
is_origin (reserve e) = false
is_origin finish = false
is_origin (instruction m operand) = false

abbrev pub begins_line : Line → Bool
begins_line (labelled label s) = is_origin s
begins_line (definition name e) = false

abbrev pub begins_read : Result Line AsmFaultKind → Bool
begins_read (Ok l) = begins_line l
begins_read (Err kind) = false

abbrev pub found_line : Context → List ℕ → Result PlacedAndContext AsmFaultKind → Found
found_line before line (Ok s)
    = record { kind = None; place = s.0; begins = begins_read (read_line before.profile line) }
found_line before line (Err kind) = record {
  kind = Some kind;
  place = record { address = before.address; content = no_bytes };
  begins = false;
}

-- What is fixed after a line: as it says, or mended.
abbrev pub fixed_after : Mending → Context → List ℕ → Result PlacedAndContext AsmFaultKind → Context
fixed_after m before line (Ok s) = s.1
fixed_after m before line (Err kind) = mended m before line

abbrev pub found_lines : Mending → Context → List (List ℕ) → List Found
found_lines m before [] = []
found_lines m before (line ∷ lines) = found_line before line (layout_of before line)
    ∷ found_lines m (fixed_after m before line (layout_of before line)) lines

abbrev pub fixed_by : Mending → Context → List (List ℕ) → Context
fixed_by m before [] = before
fixed_by m before (line ∷ lines)
    = fixed_by m (fixed_after m before line (layout_of before line)) lines

-- ---- the values of all lines

-- PastEnd, Overlap and PortAddress: what is wrong with where bytes stand.
abbrev pub is_of_place : AsmFaultKind → Bool
is_of_place kind = nat_le 24 (source_fault_number kind) && nat_le (source_fault_number kind) 26

-- A kind, if it is not one of place.
abbrev pub but_of_place : Option AsmFaultKind → Option AsmFaultKind
but_of_place None = None
but_of_place (Some kind) = if is_of_place kind then None else Some kind

-- The image so far, and whether a line since the last `*=` has a fault: its mending could move
-- those after it.
pub record Made : Type 0 where
  pub image : List (Option ℕ)
  pub moved : Bool

abbrev pub nothing_made : Made
nothing_made = record { image = empty_image; moved = false }

-- A line's value fault, but none of place where it could be moved.
unfoldable pub value_kind : Map → Numbers → Made → PlacedLine → Option AsmFaultKind
value_kind bus_map numbers made p = if made.moved
    then but_of_place (value_fault bus_map numbers made.image p)
    else value_fault bus_map numbers made.image p

-- The bytes of a line that has no fault and could not be moved stand in the image.
unfoldable pub image_after : Numbers → Made → PlacedLine → Option AsmFaultKind → List (Option ℕ)
image_after numbers made p None = if made.moved then made.image
    else with_bytes made.image p.address (line_bytes numbers p)
image_after numbers made p (Some kind) = made.image

abbrev pub made_after : Numbers → Made → Found → Option AsmFaultKind → Made
made_after numbers made f kind = record {
  image = image_after numbers made f.place kind;
  moved = if f.begins then false else made.moved || is_some f.kind || is_some kind;
}

-- A line judged: its address, its fault of layout and its fault of values.
pub record Judged : Type 0 where
  pub address : ℕ
  pub layout : Option AsmFaultKind
  pub value : Option AsmFaultKind

abbrev pub judged_line : Found → Option AsmFaultKind → Judged
judged_line f kind = record { address = f.place.address; layout = f.kind; value = kind }

abbrev pub judged_found : Map → Numbers → Made → List Found → List Judged
judged_found bus_map numbers made [] = []
judged_found bus_map numbers made (f ∷ fs) =
    judged_line f (value_kind bus_map numbers made f.place) ∷ judged_found bus_map numbers
    (made_after numbers made f (value_kind bus_map numbers made f.place)) fs

-- All lines judged, those with a fault mended so.
unfoldable pub judged_lines : Map → Mending → List (List ℕ) → List Judged
judged_lines bus_map m lines =
    judged_found bus_map (number_in (fixed_by m (first_context bus_map.profile) lines).names)
    nothing_made (found_lines m (first_context bus_map.profile) lines)

-- ---- what is told

-- The kind that a line has in both judgements.
unfoldable pub in_both : Option AsmFaultKind → Option AsmFaultKind → Option AsmFaultKind
in_both None b = None
in_both (Some a) None = None
in_both (Some a) (Some b) = if source_fault_number a == source_fault_number b then Some a else None

abbrev pub layout_told : Judged → Judged → Option AsmFaultKind
layout_told a b = in_both a.layout b.layout

-- A fault of place is told only where the line has one address in both.
abbrev pub value_told : Judged → Judged → Option AsmFaultKind
value_told a b = if a.address == b.address then in_both a.value b.value
    else but_of_place (in_both a.value b.value)

abbrev pub before_told : ℕ → Option AsmFaultKind → List AsmFault → List AsmFault
before_told number None faults = faults
before_told number (Some kind) faults = record { line = number; kind = kind } ∷ faults

-- What is told of lines that are judged twice, counted from a number on.
abbrev pub told_by : (Judged → Judged → Option AsmFaultKind) → ℕ → List Judged → List Judged
    → List AsmFault
told_by rule number [] ys = []
told_by rule number (x ∷ xs) [] = []
told_by rule number (x ∷ xs) (y ∷ ys)
    = before_told number (rule x y) (told_by rule (number + 1) xs ys)

abbrev pub told : List Judged → List Judged → List AsmFault
told xs ys = told_by layout_told 1 xs ys ++ told_by value_told 1 xs ys

-- All faults of a source that are told.
unfoldable pub faults_of : Map → List ℕ → List AsmFault
faults_of bus_map source =
    if nat_lt most_bytes (length source) then record { line = 0; kind = TooLarge } ∷ []
    else told (judged_lines bus_map smallest (read_lines bus_map.profile source))
    (judged_lines bus_map largest (read_lines bus_map.profile source))
