-- What is written of the faults of a source: a block for each. Source: mos65.
use Rattle.std.specs.Prelude.{◌≡◌, ℕ, nat_lt, Bool, true, false, if◌then◌else◌, List, [], ◌∷◌, ◌++◌, length, take, codes}
use Rattle.std.specs.Fmt.{decimal}
use Rattle.std.specs.List.Sorted.{IsNonDecreasingBy, IsPermutation}
use Rattle.fault_notes.specs.Marks.{IsMeant, IsPlain, Known}
use Rattle.fault_notes.specs.declared.wording.TheConstants.{FAULTS, ONE_FAULT}
use Rattle.source_notes.specs.Blocks.{AreBlocks, BlockKind, total_of}
use Rattle.source_notes.specs.Lines.{names_of}
use Rattle.source_notes.specs.declared.note.Note.{Note}
use Rattle.model.specs.AllFaults.{fixed_by, smallest}
use Rattle.model.specs.FaultNames.{source_fault_name, source_fault_number}
use Rattle.model.specs.Source.{first_context, read_lines}
use Rattle.model.specs.TextLines.{lines_of}
use Rattle.model.specs.declared.instruction.Profile.{Profile}
use Rattle.model.specs.declared.source_fault.AsmFault.{AsmFault}
use Rattle.model.specs.declared.source_fault.AsmFaultKind.{AsmFaultKind}

-- The title of a block, `NAME NUMBER: `.
abbrev pub title_of : AsmFaultKind → List ℕ
title_of kind
    = source_fault_name kind ++ 32 ∷ (decimal (source_fault_number kind) ++ codes ": ")

-- Whether a note means what a fault of this kind means in a line of this number.
abbrev pub Meaning : Type 1
Meaning = AsmFaultKind → ℕ → List ℕ → Note → Type 0

-- The blocks of faults. A note means the bytes that its fault means; its words are open, but that they
-- name its right word.
abbrev pub fault_blocks : Meaning → BlockKind AsmFault
fault_blocks Means = record {
  number = λ fault. fault.line;
  title = λ fault. title_of fault.kind;
  Fits = λ fault line note. Means fault.kind fault.line line note;
}

-- The lines of a source that are shown: all, and none of a source that is too long to be read.
abbrev pub shown_lines : List ℕ → List (List ℕ)
shown_lines source = if nat_lt 1048576 (length source) then [] else lines_of source

-- The names of the lines of a source, up to its end, and the numbers of the names that it defines.
abbrev pub known_in : Profile → List ℕ → Known
known_in profile source = record {
  profile = profile;
  names = names_of (read_lines profile source);
  numbers = (fixed_by smallest (first_context profile) (read_lines profile source)).names;
}

-- A source that is too long has no line whose bytes are meant.
abbrev pub means_first : Meaning
means_first kind number line note = IsPlain (0, 1) note

abbrev pub means_by : Bool → Known → Meaning
means_by true known = means_first
means_by false known = IsMeant known

abbrev pub means_in : Profile → List ℕ → Meaning
means_in profile source
    = means_by (nat_lt 1048576 (length source)) (known_in profile source)

-- What is written of faults of a source: a block for each of the first 50, in the order of their
-- lines and with the source's own line, and how many faults there are.
pub record IsTold (file source : List ℕ) (profile : Profile) (faults : List AsmFault)
    (text : List ℕ) : Type 0 where
  pub first : List AsmFault
  pub all : IsPermutation (take 50 faults) first
  pub ordered : IsNonDecreasingBy (λ f. f.line) first
  pub blocks : List ℕ
  pub each : AreBlocks (fault_blocks (means_in profile source)) file (shown_lines source) first
      blocks
  pub written : text ≡ blocks ++ total_of ONE_FAULT.now FAULTS.now (length faults)

-- Nothing is written without a fault.
abbrev pub IsToldText : List ℕ → List ℕ → Profile → List AsmFault → List ℕ → Type 0
IsToldText file source profile [] text = text ≡ []
IsToldText file source profile (fault ∷ faults) text
    = IsTold file source profile (fault ∷ faults) text
