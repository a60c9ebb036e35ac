-- Operands in square brackets, which only group here: other assemblers write a pointer so. Source:
-- mos65.
use Rattle.std.specs.Prelude.{ℕ, ◌+◌, ◌-◌, ◌==◌, Bool, true, false, ◌&&◌, ◌||◌, if◌then◌else◌, List, [], ◌∷◌, drop, Option, Some, None, is_some}
use Rattle.std.specs.Str.{byte}
use Rattle.model.specs.OpcodeTable.{opcode_of}
use Rattle.model.specs.Reading.{is_symbol}
use Rattle.model.specs.SourceLine.{Operand, absent, accumulator, immediate, direct, pointer, pointer_by_x, pointer_by_y, Statement, nothing, origin, bytes, words, words_high_first, reserve, finish, instruction, Line, labelled, definition}
use Rattle.model.specs.Token.{Lexeme, tokens_of}
use Rattle.model.specs.declared.instruction.Mnemonic.{Mnemonic}
use Rattle.model.specs.declared.instruction.Mode.TheVariants.{Ind, IndY}
use Rattle.model.specs.declared.instruction.Profile.{Profile}

-- ---- the instruction

-- Whether a mnemonic has a form with a pointer, `(e)` or `(e),Y`.
abbrev pub takes_pointer : Profile → Mnemonic → Bool
takes_pointer profile m = is_some (opcode_of profile m IndY) || is_some (opcode_of profile m Ind)

abbrev pub is_direct : Operand → Bool
is_direct (direct marked e by) = true
is_direct other = false

abbrev pub may_mean_pointer : Profile → Statement → Bool
may_mean_pointer profile (instruction m operand) = is_direct operand && takes_pointer profile m
may_mean_pointer profile other = false

-- Whether a line is an instruction with an address as its operand, and could have a pointer there.
abbrev pub line_may_mean_pointer : Profile → Option Line → Bool
line_may_mean_pointer profile None = false
line_may_mean_pointer profile (Some (labelled label s)) = may_mean_pointer profile s
line_may_mean_pointer profile (Some (definition word e)) = false

-- ---- the brackets

-- The tokens after a label and its `:`, all where there is none.
abbrev pub after_label : List Lexeme → List Lexeme
after_label [] = []
after_label (w ∷ []) = w ∷ []
after_label (w ∷ c ∷ ts) = if is_symbol (byte ":") c then ts else w ∷ c ∷ ts

-- The tokens after the mnemonic.
abbrev pub operand_tokens : List Lexeme → List Lexeme
operand_tokens ts = drop 1 (after_label ts)

-- How many brackets are still to be closed behind a token.
abbrev pub depth_behind : ℕ → Lexeme → ℕ
depth_behind depth t = if is_symbol (byte "[") t then depth + 1
    else if is_symbol (byte "]") t then depth - 1 else depth

-- The tokens behind the one that closes the last of so many brackets, if there is one.
unfoldable pub behind_brackets : ℕ → List Lexeme → Option (List Lexeme)
behind_brackets depth [] = None
behind_brackets depth (t ∷ ts) = if depth_behind depth t == 0 then Some ts
    else behind_brackets (depth_behind depth t) ts

-- Whether an address ends here: no token is left, or the `,` of an index comes.
abbrev pub ends_address : Option (List Lexeme) → Bool
ends_address None = false
ends_address (Some []) = true
ends_address (Some (t ∷ ts)) = is_symbol (byte ",") t

-- Whether the whole address of an operand stands in one pair of brackets.
abbrev pub is_in_brackets : List Lexeme → Bool
is_in_brackets [] = false
is_in_brackets (t ∷ ts) = is_symbol (byte "[") t && ends_address (behind_brackets 1 ts)

abbrev pub has_brackets : Option (List Lexeme) → Bool
has_brackets None = false
has_brackets (Some ts) = is_in_brackets (operand_tokens ts)

-- ---- the line

-- Whether the whole address of a line's instruction stands in brackets, where a pointer could.
abbrev pub is_bracketed : Profile → List ℕ → Option Line → Bool
is_bracketed profile text line = line_may_mean_pointer profile line && has_brackets (tokens_of text)
