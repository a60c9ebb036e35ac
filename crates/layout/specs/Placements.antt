-- What the first pass finds of a line, as the definitions see it.
use Rattle.std.specs.Prelude.{◌≡◌, ℕ, ⊤, Option, Some, None, Result, Ok, Err}
use Rattle.std.specs.Option.{option_or}
use Rattle.model.specs.declared.instruction.Profile.{Profile}
use Rattle.model.specs.declared.source_fault.AsmFaultKind.{AsmFaultKind}
use Rattle.model.specs.Layout as model_layout
use Rattle.model.specs.Layout.{Encoding, one, by_size, in_mode, only, either, branch_form, zero_page_mode, absolute_mode, PlacedAndNext, PlacedAndContext}
use Rattle.model.specs.declared.instruction.Mnemonic.{Mnemonic}
use Rattle.model.specs.declared.instruction.Mode.TheVariants.{Ind, IndZ}
use Rattle.model.specs.declared.line.Index.{Index}
use Rattle.layout.specs.declared.forms.Form.{Form}
use Rattle.layout.specs.declared.forms.Form.TheVariants.{One, BySize}
use Rattle.line_parts.specs.declared.code.Code.{Code}
use Rattle.layout.specs.declared.layout.Placement.{Placement}
use Rattle.line_parts.specs.declared.fault.LineError.{LineError}
use Rattle.line_parts.specs.declared.fault.LineError.TheVariants as errors
use Rattle.line_parts.specs.Contents.{content_by, line_content}
use Rattle.model.specs.Names.{Definitions}
use Rattle.model.specs.SourceLine.{Statement, Line}

-- The result is what a definition gives.
abbrev pub Shows : {A B : Type 0} → (A → B) → Result A AsmFaultKind → Result B AsmFaultKind → Type 0
Shows f (Ok a) given = given ≡ Ok (f a)
Shows f (Err kind) given = given ≡ Err kind

abbrev pub code_view : Code → Encoding
code_view c = record { opcode = c.opcode; mode = c.mode }

abbrev pub form_view : Form → model_layout.Form
form_view (One c) = one (code_view c)
form_view (BySize short long) = by_size (code_view short) (code_view long)

-- The form for an unmarked operand that may have an index.
abbrev pub direct_form : Profile → Mnemonic → Index → Option model_layout.Form
direct_form profile m by = option_or (branch_form profile m by)
    (either (in_mode profile m (zero_page_mode by)) (in_mode profile m (absolute_mode by)))

-- The form for a pointer in round brackets.
abbrev pub pointer_form : Profile → Mnemonic → Option model_layout.Form
pointer_form profile m = option_or (only profile m Ind) (only profile m IndZ)

abbrev pub placement_of : ℕ → Statement → Placement → PlacedAndNext
placement_of address s placement = (record { address = address; content = content_by placement.code s }, placement.next)

-- The result, and the names after it, are what a definition gives, unless memory runs out.
abbrev pub PlacesLine : Profile → ℕ → Line → Result Placement LineError → Definitions
    → Result PlacedAndContext AsmFaultKind → Type 0
PlacesLine profile address l (Ok placement) names given
    = given ≡ Ok (
      record { address = address; content = line_content placement.code l },
      record { profile = profile; address = placement.next; names = names },
    )
PlacesLine profile address l (Err errors.Memory) names given = ⊤
PlacesLine profile address l (Err (errors.Kind kind)) names given = given ≡ Err kind

-- The names that are left after a line with a fault.
abbrev pub Leaves : Result Placement LineError → Definitions → Definitions → Type 0
Leaves (Ok placement) names given = ⊤
Leaves (Err errors.Memory) names given = ⊤
Leaves (Err (errors.Kind kind)) names given = names ≡ given

-- The result, unless memory ran out.
abbrev pub unless_memory : {A : Type 0} → Result A LineError → Option (Result A AsmFaultKind)
unless_memory (Ok a) = Some (Ok a)
unless_memory (Err errors.Memory) = None
unless_memory (Err (errors.Kind kind)) = Some (Err kind)
