-- What the line of a test file says that names its source. Source: mos65.
use Rattle.std.specs.Prelude.{ℕ, ◌+◌, ◌==◌, ◌&&◌, nat_lt, Bool, not, if◌then◌else◌, List, [], ◌∷◌, take, drop, codes, Option, Some, None, Result, Ok, Err}
use Rattle.std.specs.Str.{byte, bytes_eq}
use Rattle.std.specs.List.{prefix_len}
use Rattle.lexer.specs.Front.{is_next}
use Rattle.memory_map.specs.declared.port.TheConstants.{DEFAULT_PORT}
use Rattle.model.specs.declared.instruction.Profile.{Profile}
use Rattle.model.specs.declared.instruction.Profile.TheVariants as profile
use Rattle.t65_values.specs.ValueText.{Reads, after_sign, after_word, and_then, ends, fault_at, number_of, skip_blanks, word_of}
use Rattle.t65_reader.specs.RowText.{fault_in, string_of}
use Rattle.t65_values.specs.declared.fault.RowFault.{RowFault}
use Rattle.t65_values.specs.declared.fault.RowFaultKind.TheVariants.{NoSource, Syntax}
use Rattle.t65_values.specs.declared.fault.TextFault.{TextFault}
use Rattle.t65_suites.specs.declared.head.Head.{Head}
use Rattle.t65_values.specs.declared.fault.Base.TheVariants.{Hex}

-- The source that a file names, the machine that its rows run on, and where its C stack begins, if
-- that is said.
pub record SeenHead : Type 0 where
  pub source : List ℕ
  pub profile : Profile
  pub rom : Option (ℕ × ℕ)
  pub port : Option ℕ
  pub stack : Option ℕ

-- A name of a file as it is written without `"`: no blank, no `;`, no `"` and no control byte.
abbrev pub is_name_byte : ℕ → Bool
is_name_byte b = nat_lt 32 b && not (b == byte ";") && not (b == 34)

-- The name of a file: between two `"`, or as it is.
unfoldable pub file_of : List ℕ → Reads (List ℕ)
file_of text =
    if is_next 34 text then string_of text
    else if prefix_len is_name_byte text == 0 then Err (fault_at Syntax text)
    else Ok (take (prefix_len is_name_byte text) text, skip_blanks (drop (prefix_len is_name_byte text) text))

-- The text after a sign, for what is read from it.
abbrev pub then_read : Result (List ℕ) RowFault → (List ℕ → Reads SeenHead) → Reads SeenHead
then_read (Ok rest) next = next rest
then_read (Err fault) next = Err fault

-- `N` or `C`.
unfoldable pub profile_of : SeenHead → List ℕ → Reads SeenHead
profile_of head text =
    if bytes_eq (word_of text) (codes "N") then Ok (record head { profile = profile.N }, after_word text)
    else if bytes_eq (word_of text) (codes "C") then Ok (record head { profile = profile.C }, after_word text)
    else Err (fault_at Syntax text)

-- The first of the port's four addresses, or no port.
unfoldable pub port_of : SeenHead → List ℕ → Reads SeenHead
port_of head text =
    if bytes_eq (word_of text) (codes "none")
    then Ok (record head { port = None }, after_word text)
    else and_then (number_of Hex text) (λ base rest. Ok (record head { port = Some base }, rest))

-- The first and the last address of the ROM.
unfoldable pub rom_of : SeenHead → List ℕ → Reads SeenHead
rom_of head text = and_then (number_of Hex text) (λ first rest.
    then_read (after_sign (byte "-") rest) (λ rest.
    and_then (number_of Hex rest) (λ last rest. Ok (record head { rom = Some (first, last) }, rest))))

-- Where the C stack begins, which grows downwards.
unfoldable pub stack_of : SeenHead → List ℕ → Reads SeenHead
stack_of head text
    = and_then (number_of Hex text) (λ top rest. Ok (record head { stack = Some top }, rest))

-- One option, or nothing where the line ends.
unfoldable pub option_of : SeenHead → List ℕ → Reads SeenHead
option_of head text =
    if ends text then Ok (head, text)
    else if bytes_eq (word_of text) (codes "profile")
    then then_read (after_sign (byte "=") (after_word text)) (profile_of head)
    else if bytes_eq (word_of text) (codes "port")
    then then_read (after_sign (byte "=") (after_word text)) (port_of head)
    else if bytes_eq (word_of text) (codes "rom")
    then then_read (after_sign (byte "=") (after_word text)) (rom_of head)
    else if bytes_eq (word_of text) (codes "stack")
    then then_read (after_sign (byte "=") (after_word text)) (stack_of head)
    else Err (fault_at Syntax text)

-- A machine of profile N without ROM, with the port where it is if nothing is said.
abbrev pub plain_head : List ℕ → SeenHead
plain_head source
    = record {
      source = source;
      profile = profile.N;
      rom = None;
      port = Some DEFAULT_PORT;
      stack = None;
    }

-- What was read is all of a line.
abbrev pub then_ends : Reads SeenHead → Result SeenHead RowFault
then_ends (Ok read) = if ends read.1 then Ok read.0 else Err (fault_at Syntax read.1)
then_ends (Err fault) = Err fault

-- Up to four options in any order, and then the line's end. Of two by one name the later holds.
unfoldable pub options_of : SeenHead → List ℕ → Result SeenHead RowFault
options_of head text = then_ends
    (and_then (option_of head text) (λ one rest.
    and_then (option_of one rest) (λ two rest. and_then (option_of two rest) option_of)))

abbrev pub after_file : Reads (List ℕ) → Result SeenHead RowFault
after_file (Ok read) = options_of (plain_head read.0) read.1
after_file (Err fault) = Err fault

-- `source`, the name of its file, and options.
unfoldable pub head_of : List ℕ → Result SeenHead RowFault
head_of text = if bytes_eq (word_of text) (codes "source") then after_file (file_of (after_word text))
    else Err (fault_at NoSource text)

-- The head, the number of the line after it, and the lines from there on; or the fault with its
-- line and its column, both counted from 1.
abbrev pub Heads : Type 0
Heads = Result (SeenHead × ℕ × List (List ℕ)) TextFault

abbrev pub head_in_line : ℕ → List ℕ → List (List ℕ) → Result SeenHead RowFault → Heads
head_in_line number line lines (Ok head) = Ok (head, number + 1, lines)
head_in_line number line lines (Err fault) = Err (fault_in number line fault)

-- The first line that is neither blank nor a comment is the head.
unfoldable pub head_from : ℕ → List (List ℕ) → Heads
head_from number [] = Err (record { line = number; column = 1; kind = NoSource })
head_from number (line ∷ lines) = if ends (skip_blanks line) then head_from (number + 1) lines
    else head_in_line number line lines (head_of (skip_blanks line))

-- A head as the code keeps it.
abbrev pub head_view : Head → SeenHead
head_view head = record {
  source = head.source.now;
  profile = head.profile;
  rom = head.rom;
  port = head.port;
  stack = head.stack;
}
