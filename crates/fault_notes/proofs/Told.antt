-- A block where there is no line.
use Rattle.std.proofs.Common.{◌≡◌, ℕ, ◌+◌, ◌-◌, ◌<◌, List, [], ◌++◌, length, take, get_or, None, refl, sym, arith}
use Rattle.std.proofs.lemmas.List.Sums.{prefix_len-le-length}
use Rattle.std.proofs.lemmas.Option.{slice_get_past}
use Rattle.source_notes.specs.Blocks.{AreBlocks, block_of}
use Rattle.source_notes.specs.Lines.{line_of}
use Rattle.source_notes.specs.declared.note.Note.{Note}
use Rattle.source_notes.proofs.BlockSteps.{block_done}
use Rattle.model.specs.declared.source_fault.AsmFault.{AsmFault}
use Rattle.fault_notes.specs.Blocks.{Meaning, fault_blocks, title_of}

pub ruleset word_steps = prefix_len-le-length

-- no line stands among none
no_line : (number : ℕ) → line_of [] number ≡ None
no_line number = slice_get_past [] (number - 1) (omega arith)

-- a block with no line after those of the faults so far
pub block_without_line : (file : List ℕ) (Means : Meaning) (faults : List AsmFault) (i : ℕ) (d : AsmFault) (text new : List ℕ) (note : Note)
    → i < length faults → AreBlocks (fault_blocks Means) file [] (take i faults) text
    → Means (get_or faults i d).kind (get_or faults i d).line [] note
    → new ≡ text ++ block_of file (get_or faults i d).line (title_of (get_or faults i d).kind) None note
    → AreBlocks (fault_blocks Means) file [] (take (i + 1) faults) new
block_without_line file Means faults i d text new note within so_far meant e =
    block_done (fault_blocks Means) file [] faults i d text new None [] note within so_far (sym (no_line (get_or faults i d).line)) refl meant e
