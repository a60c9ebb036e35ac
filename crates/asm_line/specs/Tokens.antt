-- A line's tokens, or why it has none.
use Rattle.std.specs.Prelude.{ℕ, nat_lt, not, if◌then◌else◌, List, length, Option, Some, None, Result, Ok, Err}
use Rattle.std.specs.List.{list_all}
use Rattle.model.specs.SourceLine.{Line, line_of, unreserved}
use Rattle.model.specs.Token.{Lexeme, is_source_byte, tokens_of}
use Rattle.model.specs.declared.instruction.Profile.{Profile}
use Rattle.model.specs.declared.source_fault.AsmFaultKind.{AsmFaultKind}
use Rattle.model.specs.declared.source_fault.AsmFaultKind.TheVariants.{LineTooLong, NotAscii, Syntax}

-- the fault of a line that has no tokens, by its bytes
abbrev pub fault_of_bytes : List ℕ → AsmFaultKind
fault_of_bytes line = if not (list_all is_source_byte line) then NotAscii else Syntax

abbrev pub tokens_or : AsmFaultKind → Option (List Lexeme) → Result (List Lexeme) AsmFaultKind
tokens_or kind None = Err kind
tokens_or kind (Some ts) = Ok ts

unfoldable pub line_tokens : List ℕ → Result (List Lexeme) AsmFaultKind
line_tokens line = if nat_lt 255 (length line) then Err LineTooLong
    else tokens_or (fault_of_bytes line) (tokens_of line)

-- what they say in a profile, or the fault that there is already
abbrev pub line_of_tokens : Profile → Result (List Lexeme) AsmFaultKind → Result Line AsmFaultKind
line_of_tokens profile (Ok ts) = unreserved profile (line_of profile ts)
line_of_tokens profile (Err kind) = Err kind
