-- What a line that was read denotes alone at an address. Source: mos65.
use Rattle.std.specs.Prelude.{ℕ, if◌then◌else◌, List, Result, Err}
use Rattle.model.specs.Layout.{◌>>>◌, named_line_at}
use Rattle.model.specs.OneLineAssembly.{bytes_alone, context_at, is_short}
use Rattle.model.specs.SourceLine.{Line}
use Rattle.model.specs.declared.instruction.Profile.{Profile}
use Rattle.model.specs.declared.source_fault.AsmFaultKind.{AsmFaultKind}
use Rattle.model.specs.declared.source_fault.AsmFaultKind.TheVariants.{NotOneLine}

-- The bytes of a line, or its fault: where it stands, and then its bytes if it may be alone.
abbrev pub line_alone : Profile → ℕ → Line → Result (List ℕ) AsmFaultKind
line_alone profile address line = named_line_at (context_at profile address) line >>> λ q.
    if is_short line q.0 then bytes_alone q.0 else Err NotOneLine
