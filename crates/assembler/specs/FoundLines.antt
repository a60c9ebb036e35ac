-- The lines that are found, as the definitions see them.
use Rattle.std.specs.Prelude.{◌≡◌, ℕ, ⊤, Bool, false, List, ◌⊎◌, Result, Ok, Err}
use Rattle.model.specs.declared.instruction.Profile.{Profile}
use Rattle.model.specs.declared.source_fault.AsmFault.{AsmFault}
use Rattle.model.specs.declared.source_fault.AsmFaultKind.{AsmFaultKind}
use Rattle.line_parts.specs.declared.fault.LineError.{LineError}
use Rattle.line_parts.specs.declared.fault.LineError.TheVariants as errors
use Rattle.assembler.specs.declared.found.Lines.{Lines}
use Rattle.assembler.specs.declared.first_pass.Laid.{Laid}
use Rattle.assembler.specs.declared.first_pass.Taken.{Taken}
use Rattle.line_parts.specs.KeptLines.{numbered_lines}
use Rattle.line_parts.specs.LineFaults.{out_of_memory}
use Rattle.line_parts.specs.Spans.{pairs_of}
use Rattle.assembler.specs.Found.{Found}
use Rattle.assembler.specs.Lines.{is_instruction_in, reads_label}
use Rattle.model.specs.Names.{Definitions}
use Rattle.model.specs.SourceLine.{Line, labelled, definition, read_line}
use Rattle.model.specs.Layout.{Context}
use Rattle.model.specs.Source.{is_end, is_finish}

abbrev pub found_of : Lines → Found
found_of l = record { extents = pairs_of l.spans.items; kept = numbered_lines l.kept.items }

abbrev pub ends_line : Line → Bool
ends_line (labelled label s) = is_finish s
ends_line (definition name e) = false

-- One more line is found, which leaves these names; the next line's address, whether no more lines
-- are read, whether this one is an instruction, and whether its name is a label. Unless memory runs
-- out.
abbrev pub Takes : Profile → List ℕ → Found → Result Taken LineError → Definitions
    → Result (Found × Context) AsmFaultKind → Type 0
Takes profile text found (Ok taken) names given
    = (given ≡ Ok (found, record { profile = profile; address = taken.next; names = names }))
    × (taken.is_end ≡ is_end (read_line profile text))
    × (taken.is_instruction ≡ is_instruction_in profile text)
    × (taken.is_label ≡ reads_label (read_line profile text))
Takes profile text found (Err errors.Memory) names given = ⊤
Takes profile text found (Err (errors.Kind kind)) names given = given ≡ Err kind

-- What is found of all lines, and the names after them, unless memory runs out.
abbrev pub Lays : Profile → Result Laid AsmFault → Definitions → Result (Found × Context) AsmFault
    → Type 0
Lays profile (Ok laid) names given = (end : ℕ)
    × (given ≡ Ok (found_of laid.lines, record { profile = profile; address = end; names = names }))
Lays profile (Err fault) names given = (fault ≡ out_of_memory) ⊎ (given ≡ Err fault)
