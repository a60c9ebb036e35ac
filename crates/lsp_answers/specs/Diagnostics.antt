-- What an editor marks in a source. Source: mos65; what is found and which bytes are meant is that
-- of `check`.
use Rattle.std.specs.Prelude.{◌≡◌, ⊤, ℕ, List, [], ◌∷◌, ◌++◌, Result, Ok, Vec}
use Rattle.std.specs.declared.alloc.AllocError.{AllocError}
use Rattle.std.specs.declared.alloc.Global.{Global}
use Rattle.warning_notes.specs.Blocks.{warning_blocks}
use Rattle.fault_notes.specs.Blocks.{fault_blocks, means_in, shown_lines}
use Rattle.model.specs.State.{Map}
use Rattle.model.specs.TextLines.{lines_of}
use Rattle.model.specs.declared.source_fault.AsmFault.{AsmFault}
use Rattle.lsp_answers.specs.declared.kinds.Diagnostic.{Diagnostic}
use Rattle.lsp_answers.specs.declared.kinds.DiagnosticKind.{DiagnosticKind}
use Rattle.lsp_answers.specs.declared.kinds.DiagnosticKind.TheVariants as kinds
use Rattle.source_notes.specs.Blocks.{BlockKind}
use Rattle.source_notes.specs.Lines.{line_of, line_or_none, names_of}
use Rattle.source_notes.specs.declared.note.Note.{Note}
use Rattle.warnings.specs.Warnings.{warnings_of}
use Rattle.warnings.specs.declared.kinds.Warning.{Warning}

abbrev pub fault_kind : AsmFault → DiagnosticKind
fault_kind fault = kinds.Fault fault.kind

abbrev pub warning_kind : Warning → DiagnosticKind
warning_kind warning = kinds.Warning warning.kind

-- The diagnostic of one fault or warning among the lines of a source: its line's number, its kind,
-- and a note that fits it, by the text of that line. A line that is not there has no bytes.
pub record IsMarked {T : Type 0} (block : BlockKind T) (kind_of : T → DiagnosticKind)
    (lines : List (List ℕ)) (one : T) (d : Diagnostic) : Type 0 where
  pub line : d.line ≡ block.number one
  pub kind : d.kind ≡ kind_of one
  pub fits : block.Fits one (line_or_none (line_of lines (block.number one))) d.note

-- One for each, in their order.
abbrev pub AreMarked : {T : Type 0} → BlockKind T → (T → DiagnosticKind) → List (List ℕ) → List T
    → List Diagnostic → Type 0
AreMarked block kind_of lines [] [] = ⊤
AreMarked block kind_of lines (one ∷ others) (d ∷ ds)
    = IsMarked block kind_of lines one d × AreMarked block kind_of lines others ds
AreMarked block kind_of lines [] (d ∷ ds) = ⊥
AreMarked block kind_of lines (one ∷ others) [] = ⊥

-- A diagnostic behind others, where memory ran out neither for these nor for its note.
pub record IsPut (found : Result (Vec Diagnostic Global) AllocError) (line : ℕ)
    (kind : DiagnosticKind) (note : Result Note AllocError) (ds : List Diagnostic) : Type 0 where
  pub before : Vec Diagnostic Global
  pub said : Note
  pub had : found ≡ Ok before
  pub noted : note ≡ Ok said
  pub all : ds ≡ before.items ++ record { line = line; kind = kind; note = said } ∷ []

-- The diagnostics of a source that has these faults: of each fault, or of each warning where there
-- is no fault.
abbrev pub AreDiagnostics : Map → List ℕ → List AsmFault → List Diagnostic → Type 0
AreDiagnostics bus_map source [] ds = AreMarked (warning_blocks (names_of (lines_of source)))
    warning_kind (lines_of source) (warnings_of bus_map source) ds
AreDiagnostics bus_map source (fault ∷ faults) ds
    = AreMarked (fault_blocks (means_in bus_map.profile source)) fault_kind (shown_lines source)
    (fault ∷ faults) ds
