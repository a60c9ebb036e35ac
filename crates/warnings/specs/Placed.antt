-- The lines of a source, each with its text, what it says, and where its bytes stand. Source: mos65.
use Rattle.std.specs.Prelude.{ℕ, ◌==◌, Bool, if◌then◌else◌, List, [], ◌∷◌, Option, Some, None, Result, Ok, Err}
use Rattle.model.specs.AllFaults as all
use Rattle.model.specs.Layout.{size_of}
use Rattle.model.specs.SourceLine.{Line, read_line}
use Rattle.model.specs.declared.instruction.Profile.{Profile}
use Rattle.model.specs.declared.source_fault.AsmFaultKind.{AsmFaultKind}
use Rattle.warnings.specs.Brackets.{is_bracketed}

-- A line: its text; what it says, if it can be read; the address and the number of its bytes;
-- whether its operand stands in brackets where a pointer could. A line without bytes has the address
-- 0 here.
pub record Placed : Type 0 where
  pub text : List ℕ
  pub line : Option Line
  pub address : ℕ
  pub size : ℕ
  pub bracketed : Bool

abbrev pub readable_line : Result Line AsmFaultKind → Option Line
readable_line (Ok l) = Some l
readable_line (Err kind) = None

-- What a text says, if it can be read.
abbrev pub meaning_of : Profile → List ℕ → Option Line
meaning_of profile text = readable_line (read_line profile text)

-- An address, if there is a byte at it.
abbrev pub if_bytes : ℕ → ℕ → ℕ
if_bytes size address = if size == 0 then 0 else address

abbrev pub placed_line : Profile → List ℕ → all.Found → Placed
placed_line profile text f = record {
  text = text;
  line = meaning_of profile text;
  address = if_bytes (size_of f.place.content) f.place.address;
  size = size_of f.place.content;
  bracketed = is_bracketed profile text (meaning_of profile text);
}

-- The lines of which the layout found something, which are those up to `.END`.
abbrev pub placed_lines : Profile → List (List ℕ) → List all.Found → List Placed
placed_lines profile [] fs = []
placed_lines profile (text ∷ texts) [] = []
placed_lines profile (text ∷ texts) (f ∷ fs) = placed_line profile text f ∷ placed_lines profile texts fs
