-- What a source denotes, and the fault of one that denotes nothing. Source: mos65.
use Rattle.std.specs.Prelude.{◌≡◌, ℕ, ℤ, pos, ⊤, ◌+◌, ◌<◌, ◌≤◌, ◌⊎◌, Bool, true, false, if◌then◌else◌, List, [], ◌∷◌, ◌++◌, length, Option, Some, None, Result, Ok, Err}
use Rattle.model.specs.State.{Map}
use Rattle.model.specs.TextLines.{lines_of}
use Rattle.model.specs.Image.{empty_image}
use Rattle.model.specs.declared.instruction.Profile.{Profile}
use Rattle.model.specs.declared.source_fault.AsmFault.{AsmFault}
use Rattle.model.specs.declared.source_fault.AsmFaultKind.{AsmFaultKind}
use Rattle.model.specs.declared.source_fault.AsmFaultKind.TheVariants.{TooLarge}
use Rattle.model.specs.Value.{Numbers, eval_of}
use Rattle.model.specs.Names.{number_in}
use Rattle.model.specs.SourceLine.{Statement, nothing, origin, bytes, words, words_high_first, reserve, finish, instruction, Line, labelled, definition, read_line}
use Rattle.model.specs.Layout.{Context, PlacedLine, IsLaidOut, layout_of}
use Rattle.model.specs.Bytes.{Makes, value_fault}

-- The most bytes that a source has.
abbrev pub most_bytes : ℕ
most_bytes = 1048576

-- ---- the lines that are read

abbrev pub is_finish : Statement → Bool
is_finish finish = true
is_finish nothing = false
is_finish (origin e) = false
is_finish (bytes items) = false
is_finish (words es) = false
is_finish (words_high_first es) = false
is_finish (reserve e) = false
is_finish (instruction m operand) = false

-- Whether the statement read is `.END`.
abbrev pub is_end : Result Line AsmFaultKind → Bool
is_end (Ok (labelled label s)) = is_finish s
is_end (Ok (definition name e)) = false
is_end (Err kind) = false

-- The lines of some that are read: up to that of `.END`, which is read too.
abbrev pub up_to_end : Profile → List (List ℕ) → List (List ℕ)
up_to_end profile [] = []
up_to_end profile (line ∷ lines)
    = line ∷ (if is_end (read_line profile line) then [] else up_to_end profile lines)

-- The lines of a source that are read.
unfoldable pub read_lines : Profile → List ℕ → List (List ℕ)
read_lines profile source = up_to_end profile (lines_of source)

-- ---- the denotation

-- Before the first line: its address is 0, and no name is defined.
abbrev pub first_context : Profile → Context
first_context profile = record { profile = profile; address = 0; names = [] }

-- A source denotes an image under a map: some assignment of an address to each line and of a number
-- to each name meets each line's own equation; each line has its bytes, at free addresses that are
-- in memory and not the port's; and the image is these bytes.
pub record Denotes (bus_map : Map) (source : List ℕ) (image : List (Option ℕ)) : Type 0 where
  pub size : length source ≤ most_bytes
  pub placed : List PlacedLine
  pub all : Context
  pub laid : IsLaidOut (first_context bus_map.profile) (read_lines bus_map.profile source) placed all
  pub made : Makes bus_map (number_in all.names) empty_image placed image

-- ---- faults

-- The source has too many bytes: line 0.
pub record IsTooLarge (source : List ℕ) (fault : AsmFault) : Type 0 where
  pub size : most_bytes < length source
  pub line : fault.line ≡ 0
  pub kind : fault.kind ≡ TooLarge

-- The first line that has a layout fault after what the lines before it fix. Lines are counted from
-- 1.
pub record HasLayoutFault (profile : Profile) (source : List ℕ) (fault : AsmFault) : Type 0 where
  pub size : length source ≤ most_bytes
  pub front : List (List ℕ)
  pub line : List ℕ
  pub back : List (List ℕ)
  pub cut : read_lines profile source ≡ front ++ line ∷ back
  pub placed : List PlacedLine
  pub before : Context
  pub laid : IsLaidOut (first_context profile) front placed before
  pub number : fault.line ≡ length front + 1
  pub kind : layout_of before line ≡ Err fault.kind

-- All lines are laid out, and this is the first one with a value fault under the numbers of all
-- names.
pub record HasValueFault (bus_map : Map) (source : List ℕ) (fault : AsmFault) : Type 0 where
  pub size : length source ≤ most_bytes
  pub placed : List PlacedLine
  pub all : Context
  pub laid : IsLaidOut (first_context bus_map.profile) (read_lines bus_map.profile source) placed all
  pub front : List PlacedLine
  pub line : PlacedLine
  pub back : List PlacedLine
  pub cut : placed ≡ front ++ line ∷ back
  pub image : List (Option ℕ)
  pub made : Makes bus_map (number_in all.names) empty_image front image
  pub number : fault.line ≡ length front + 1
  pub kind : value_fault bus_map (number_in all.names) image line ≡ Some fault.kind

-- The fault of a source: its size comes first, then the layout of all lines, then their values.
abbrev pub HasFault : Map → List ℕ → AsmFault → Type 0
HasFault bus_map source fault = IsTooLarge source fault
    ⊎ (HasLayoutFault bus_map.profile source fault ⊎ HasValueFault bus_map source fault)

-- ---- that this is one meaning of each source

-- Each source denotes an image or has a fault.
abbrev pub EachSourceIsJudged : Type 0
EachSourceIsJudged = (bus_map : Map) (source : List ℕ)
    → ((image : List (Option ℕ)) × Denotes bus_map source image)
    ⊎ ((fault : AsmFault) × HasFault bus_map source fault)

-- No source denotes two images.
abbrev pub OneImage : Type 0
OneImage = (bus_map : Map) (source : List ℕ) (a b : List (Option ℕ)) → Denotes bus_map source a
    → Denotes bus_map source b → a ≡ b

-- No source places its lines or numbers its names in two ways.
abbrev pub OneAssignment : Type 0
OneAssignment = (lines : List (List ℕ)) (before : Context) (p q : List PlacedLine) (a b : Context)
    → IsLaidOut before lines p a → IsLaidOut before lines q b → (p ≡ q) × (a ≡ b)

-- No source has two faults.
abbrev pub OneFault : Type 0
OneFault = (bus_map : Map) (source : List ℕ) (a b : AsmFault) → HasFault bus_map source a
    → HasFault bus_map source b → a ≡ b

-- No source does both.
abbrev pub ImageOrFault : Type 0
ImageOrFault = (bus_map : Map) (source : List ℕ) (image : List (Option ℕ)) (fault : AsmFault)
    → Denotes bus_map source image → HasFault bus_map source fault → ⊥

-- ---- that the numbers are the names'

-- A label's number is its line's address; a defined name's number is its expression's value under
-- the names known there.
abbrev pub NameHolds : Numbers → Context → Line → Type 0
NameHolds numbers before (labelled None s) = ⊤
NameHolds numbers before (labelled (Some name) s) = numbers name ≡ Some (pos before.address)
NameHolds numbers before (definition name e) = (v : ℤ)
    × (eval_of (number_in before.names) (pos before.address) e ≡ Ok v) × (numbers name ≡ Some v)

-- So it is on each line.
abbrev pub NamesHold : Numbers → Context → List (List ℕ) → List PlacedLine → Type 0
NamesHold numbers before [] placed = ⊤
NamesHold numbers before (line ∷ lines) [] = ⊤
NamesHold numbers before (line ∷ lines) (p ∷ ps) =
    (next : Context) × (l : Line) × (layout_of before line ≡ Ok (p, next))
    × (read_line before.profile line ≡ Ok l) × NameHolds numbers before l
    × NamesHold numbers next lines ps

-- Under the numbers of all names each name that a line defines has the number that the line gives
-- it.
abbrev pub NamesHaveTheirNumbers : Type 0
NamesHaveTheirNumbers = (lines : List (List ℕ)) (placed : List PlacedLine) (before all : Context)
    → IsLaidOut before lines placed all → NamesHold (number_in all.names) before lines placed
