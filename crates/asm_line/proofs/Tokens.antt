-- What a line says by its tokens is what the definition says of it: a line has tokens only where
-- its bytes may stand.
use Rattle.std.proofs.Common.{◌≡◌, ℕ, Bool, true, false, List, length, Some, None, Result, Err, refl}
use Rattle.std.specs.Prelude.{nat_lt, not, if◌then◌else◌}
use Rattle.std.specs.List.{list_all}
use Rattle.std.specs.Option.{option_and_then}
use Rattle.model.specs.Token.{Lexeme, Tokens, is_source_byte, tokens_of, tokens_from}
use Rattle.model.specs.declared.instruction.Profile.{Profile}
use Rattle.model.specs.SourceLine.{Line, line_of, unreserved, read_line}
use Rattle.model.specs.declared.source_fault.AsmFaultKind.{AsmFaultKind}
use Rattle.model.specs.declared.source_fault.AsmFaultKind.TheVariants.{LineTooLong, NotAscii, Syntax}
use Rattle.asm_line.specs.Tokens.{line_tokens, tokens_or, line_of_tokens}

abbrev Said : Type 0
Said = Result Line AsmFaultKind

-- by whether each byte may stand
by_bytes : (profile : Profile) (all : Bool) (found : Tokens)
    → (if not all then Err NotAscii else unreserved profile (option_and_then (line_of profile) (if all then found else None)))
    ≡ line_of_tokens profile (tokens_or (if not all then NotAscii else Syntax) (if all then found else None))
by_bytes profile true None = refl
by_bytes profile true (Some ts) = refl
by_bytes profile false found = refl

by_length : (profile : Profile) (long : Bool) (a : Said) (b : Result (List Lexeme) AsmFaultKind) → a ≡ line_of_tokens profile b
    → (if long then Err LineTooLong else a) ≡ line_of_tokens profile (if long then Err LineTooLong else b)
by_length profile true a b same = refl
by_length profile false a b same = same

pub read_is : (profile : Profile) (line : List ℕ) → read_line profile line ≡ line_of_tokens profile (line_tokens line)
unfolding read_line line_tokens tokens_of
read_is profile line = by_length profile (nat_lt 255 (length line)) _ _ (by_bytes profile (list_all is_source_byte line) (tokens_from 0 0 line))
