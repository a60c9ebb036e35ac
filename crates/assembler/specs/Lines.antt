-- The lines of a source that are read, each in its place. Source: mos65.
use Rattle.std.specs.Prelude.{ℕ, ◌+◌, Bool, true, false, List, [], ◌∷◌, map, Option, Some, None, Result, Ok, Err}
use Rattle.std.specs.List.{filter_map}
use Rattle.model.specs.declared.instruction.Profile.{Profile}
use Rattle.model.specs.declared.source_fault.AsmFaultKind.{AsmFaultKind}
use Rattle.model.specs.SourceLine.{Statement, nothing, origin, bytes, words, words_high_first, reserve, finish, instruction, Line, labelled, definition, read_line}
use Rattle.model.specs.Layout.{PlacedLine, extents_of}
use Rattle.model.specs.Source.{read_lines}
use Rattle.assembler.specs.declared.source_line.SourceLine.{SourceLine}

-- A line that is read: its number, counted from 1; its address; how many bytes it denotes; its text
-- without its end; and whether it is an instruction.
pub record LineView : Type 0 where
  pub number : ℕ
  pub address : ℕ
  pub count : ℕ
  pub text : List ℕ
  pub is_instruction : Bool

abbrev pub line_view : SourceLine → LineView
line_view line = record {
  number = line.number;
  address = line.address;
  count = line.count;
  text = line.text.now;
  is_instruction = line.is_instruction;
}

-- Whether a statement is an instruction, and no directive.
abbrev pub is_instruction : Statement → Bool
is_instruction (instruction m operand) = true
is_instruction nothing = false
is_instruction (origin e) = false
is_instruction (bytes items) = false
is_instruction (words es) = false
is_instruction (words_high_first es) = false
is_instruction (reserve e) = false
is_instruction finish = false

abbrev pub has_instruction : Line → Bool
has_instruction (labelled label s) = is_instruction s
has_instruction (definition name e) = false

abbrev pub reads_instruction : Result Line AsmFaultKind → Bool
reads_instruction (Ok line) = has_instruction line
reads_instruction (Err kind) = false

-- Whether the line that a profile reads of a text has an instruction.
abbrev pub is_instruction_in : Profile → List ℕ → Bool
is_instruction_in profile text = reads_instruction (read_line profile text)

-- Whether the name that a line defines is a label, which stands before `:`. A line defines one name
-- at most.
abbrev pub names_label : Line → Option Bool
names_label (labelled None s) = None
names_label (labelled (Some name) s) = Some true
names_label (definition name e) = Some false

abbrev pub reads_label : Result Line AsmFaultKind → Option Bool
reads_label (Ok line) = names_label line
reads_label (Err kind) = None

-- Of each name that some lines define, in the order of its definition, whether it is a label.
abbrev pub labels_in : Profile → List (List ℕ) → List Bool
labels_in profile texts = filter_map (λ text. reads_label (read_line profile text)) texts

-- The lines from a number on: each text with its place, which is an address and a count of bytes,
-- and whether it is an instruction.
unfoldable pub lines_with : ℕ → List (List ℕ) → List (ℕ × ℕ) → List Bool → List LineView
lines_with number [] places instructions = []
lines_with number (text ∷ texts) [] instructions = []
lines_with number (text ∷ texts) (place ∷ places) [] = []
lines_with number (text ∷ texts) (place ∷ places) (is_code ∷ instructions) = record {
  number = number;
  address = place.0;
  count = place.1;
  text = text;
  is_instruction = is_code;
} ∷ lines_with (number + 1) texts places instructions

-- The lines of a source that a profile reads, in the places that a layout gives them.
abbrev pub placed_lines : Profile → List ℕ → List PlacedLine → List LineView
placed_lines profile source placed = lines_with 1 (read_lines profile source) (extents_of placed)
    (map (is_instruction_in profile) (read_lines profile source))
