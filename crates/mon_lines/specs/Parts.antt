-- The parts of what a line asks for: tests, stretches of memory, settings. Source: mos65.
use Rattle.std.specs.Prelude.{ℕ, zero, suc, ◌+◌, ◌-◌, ◌==◌, ◌&&◌, ◌||◌, min, nat_lt, nat_le, is_some, Bool, true, false, codes, if◌then◌else◌, List, [], ◌∷◌, ◌++◌, length, Option, Some, None, unwrap_or, Ok, Err}
use Rattle.std.specs.Str.{byte, bytes_eq, str_eq_ignore_ascii_case}
use Rattle.lexer.specs.Front.{is_next}
use Rattle.model.specs.declared.event.Setting.{Setting}
use Rattle.model.specs.declared.event.Setting.TheVariants as setting
use Rattle.mon_line_parts.specs.Reading.{Reads, missing, unreadable, many, after, after_word, and_then, is_empty, is_word, past, word_of}
use Rattle.mon_line_parts.specs.Values.{PlacesView, count_of, sum_of}
use Rattle.mon_lines.specs.declared.command.Compare.{Compare}
use Rattle.mon_lines.specs.declared.command.Compare.TheVariants.{Equal, Other, Less, LessOrEqual, More, MoreOrEqual}
use Rattle.opcode_facts.specs.declared.flag.Flag.{Flag}
use Rattle.opcode_facts.specs.declared.flag.Flag.TheVariants as flag
use Rattle.mon_lines.specs.declared.command.Left.{Left}
use Rattle.mon_lines.specs.declared.command.Left.TheVariants as left
use Rattle.mon_lines.specs.declared.command.Register.{Register}
use Rattle.mon_lines.specs.declared.command.Register.TheVariants as register
use Rattle.mon_lines.specs.declared.command.Stretch.{Stretch}
use Rattle.mon_lines.specs.declared.command.Test.{Test}
use Rattle.mon_lines.specs.declared.command.Undoing.{Undoing}
use Rattle.mon_lines.specs.declared.command.Undoing.TheVariants.{Events, Over}
use Rattle.mon_lines.specs.declared.command.WatchKind.{WatchKind}
use Rattle.mon_lines.specs.declared.command.WatchKind.TheVariants.{Change, Read, Write}
use Rattle.mon_line_parts.specs.declared.slip.Lack.TheVariants as lacking
use Rattle.mon_line_parts.specs.declared.values.Kind.TheVariants.{Address, Byte, Word}

-- An address, and a value of 16 bits.
abbrev pub address_at : PlacesView → ℕ → List ℕ → Reads ℕ
address_at places pc text = sum_of places (Address pc) text

-- ---- tests of breaks

-- A register's name, in capitals or not.
unfoldable pub register_of : List ℕ → Option Register
register_of word =
    if bytes_eq word (codes "A") || bytes_eq word (codes "a") then Some register.A
    else if bytes_eq word (codes "X") || bytes_eq word (codes "x") then Some register.X
    else if bytes_eq word (codes "Y") || bytes_eq word (codes "y") then Some register.Y
    else if bytes_eq word (codes "S") || bytes_eq word (codes "s") then Some register.S
    else if bytes_eq word (codes "SP") || bytes_eq word (codes "sp") then Some register.S
    else if bytes_eq word (codes "P") || bytes_eq word (codes "p") then Some register.P
    else if bytes_eq word (codes "PC") || bytes_eq word (codes "pc") then Some register.Pc
    else if bytes_eq word (codes "Pc") then Some register.Pc
    else None

-- A flag's letter, a capital or not. B is no flag of the processor's.
unfoldable pub flag_of : List ℕ → Option Flag
flag_of word =
    if str_eq_ignore_ascii_case word (codes "N") then Some flag.N
    else if str_eq_ignore_ascii_case word (codes "V") then Some flag.V
    else if str_eq_ignore_ascii_case word (codes "D") then Some flag.D
    else if str_eq_ignore_ascii_case word (codes "I") then Some flag.I
    else if str_eq_ignore_ascii_case word (codes "Z") then Some flag.Z
    else if str_eq_ignore_ascii_case word (codes "C") then Some flag.C
    else None

-- Whether a word is the name of a register or a flag.
abbrev pub is_register_or_flag : List ℕ → Bool
is_register_or_flag word = is_some (register_of word) || is_some (flag_of word)

-- What stands on the left side of a test: a register, a flag, or a byte of memory. A register or a
-- flag counts before a name of the program.
abbrev pub byte_left : ℕ → List ℕ → Reads Left
byte_left address rest = Ok (left.Byte address, rest)

abbrev pub flag_or_byte : PlacesView → ℕ → List ℕ → Option Flag → Reads Left
flag_or_byte places pc text (Some flag) = Ok (left.Flag flag, after_word text)
flag_or_byte places pc text None = and_then (address_at places pc text) byte_left

abbrev pub left_by : PlacesView → ℕ → List ℕ → Option Register → Reads Left
left_by places pc text (Some register) = Ok (left.Register register, after_word text)
left_by places pc text None = flag_or_byte places pc text (flag_of (word_of text))

abbrev pub left_of : PlacesView → ℕ → List ℕ → Reads Left
left_of places pc text = left_by places pc text (register_of (word_of text))

-- `=` or `==`, `<>` or `!=`, `<`, `<=`, `>`, `>=`.
unfoldable pub comparison_of : List ℕ → Reads Compare
comparison_of text =
    if is_next (byte "=") text then Ok (Equal, past (byte "=") (after 1 text))
    else if is_next (byte "!") text && is_next (byte "=") (after 1 text)
    then Ok (Other, after 1 (after 1 text))
    else if is_next (byte "<") text then (
    if is_next (byte ">") (after 1 text) then Ok (Other, after 1 (after 1 text))
    else if is_next (byte "=") (after 1 text) then Ok (LessOrEqual, after 1 (after 1 text))
    else Ok (Less, after 1 text))
    else if is_next (byte ">") text then (
    if is_next (byte "=") (after 1 text) then Ok (MoreOrEqual, after 1 (after 1 text))
    else Ok (More, after 1 text))
    else Err (missing lacking.Comparison)

unfoldable pub test_of : PlacesView → ℕ → List ℕ → Reads Test
test_of places pc text =
    and_then (left_of places pc text) (λ left rest.
    and_then (comparison_of rest) (λ compare rest.
    and_then (sum_of places Word rest) (λ right rest.
    Ok (record { left = left; compare = compare; right = right }, rest))))

-- Tests that were read, and one more: four at most.
abbrev pub with_test : List Test → Test → List ℕ → Reads (List Test)
with_test found test rest = if nat_lt (length found) 4 then Ok (found ++ test ∷ [], rest) else Err many

-- Tests with `and` between them; so many more at most.
unfoldable pub tests_within : ℕ → PlacesView → ℕ → List Test → List ℕ → Reads (List Test)
tests_within zero places pc found text = Ok (found, text)
tests_within (suc n) places pc found text =
    and_then (and_then (test_of places pc text) (with_test found)) (λ found rest.
    if is_word (codes "and") rest then tests_within n places pc found (after_word rest)
    else Ok (found, rest))

-- Five tests are as good as any more, since the fifth does not fit.
abbrev pub tests_of : PlacesView → ℕ → List ℕ → Reads (List Test)
tests_of places pc text = if is_word (codes "if") text
    then tests_within 5 places pc [] (after_word text) else Ok ([], text)

abbrev pub times_or : Option ℕ → List ℕ → Reads ℕ
times_or (Some times) rest = Ok (times, rest)
times_or None rest = Err (missing lacking.Times)

-- How often the tests have to hold.
abbrev pub times_of : PlacesView → List ℕ → Reads ℕ
times_of places text = if is_word (codes "times") text
    then and_then (count_of places (after_word text)) times_or else Ok (1, text)

-- ---- stretches of memory

abbrev pub from_to : ℕ → ℕ → Stretch
from_to first last = record { first = first; last = last }

-- So many addresses from one on, none past $FFFF.
abbrev pub so_many_from : ℕ → ℕ → Stretch
so_many_from first count = from_to first (min 65535 (first + (count - 1)))

abbrev pub last_of : ℕ → ℕ → List ℕ → Reads Stretch
last_of first last rest = if nat_lt last first then Err (missing lacking.LastAddress)
    else Ok (from_to first last, rest)

-- An address, or two with `..` between them.
unfoldable pub stretch_of : PlacesView → ℕ → List ℕ → Reads Stretch
stretch_of places pc text = and_then (address_at places pc text) (λ first rest.
    if is_next (byte ".") rest then (
    if is_next (byte ".") (after 1 rest)
    then and_then (address_at places pc (after 1 (after 1 rest))) (last_of first)
    else Err (missing lacking.Points))
    else Ok (from_to first first, rest))

-- Two points may stand between two addresses.
abbrev pub past_points : List ℕ → List ℕ
past_points text = if is_next (byte ".") text then past (byte ".") (after 1 text) else text

-- Two addresses, the second of which is not below the first.
unfoldable pub ends_of : PlacesView → ℕ → List ℕ → Reads Stretch
ends_of places pc text = and_then (address_at places pc text) (λ first rest.
    and_then (address_at places pc (past_points rest)) (last_of first))

-- The register whose changes are watched where its name, a capital or not, stands in the place of an
-- address.
unfoldable pub watched_register : List ℕ → Option Register
watched_register word =
    if str_eq_ignore_ascii_case word (codes "A") then Some register.A
    else if str_eq_ignore_ascii_case word (codes "X") then Some register.X
    else if str_eq_ignore_ascii_case word (codes "Y") then Some register.Y
    else if str_eq_ignore_ascii_case word (codes "S") then Some register.S
    else if str_eq_ignore_ascii_case word (codes "P") then Some register.P
    else None

-- What is watched: changes if nothing is said.
abbrev pub kind_of : List ℕ → Reads WatchKind
kind_of text =
    if is_word (codes "read") text then Ok (Read, after_word text)
    else if is_word (codes "write") text then Ok (Write, after_word text)
    else if is_word (codes "change") text then Ok (Change, after_word text)
    else Ok (Change, text)

abbrev pub counted_from : ℕ → Option ℕ → List ℕ → Reads Stretch
counted_from first count rest = Ok (so_many_from first (unwrap_or count 64), rest)

abbrev pub by_count : PlacesView → ℕ → List ℕ → Reads Stretch
by_count places first text = and_then (count_of places text) (counted_from first)

-- A word of four bytes is a last address if it is not below the first.
unfoldable pub second_of : PlacesView → ℕ → ℕ → List ℕ → Reads Stretch
second_of places pc first text = if length (word_of text) == 4
    then and_then (address_at places pc text) (λ last rest.
    if nat_le first last then Ok (from_to first last, rest) else by_count places first text)
    else by_count places first text

-- What is shown of memory: two addresses, or one and a count, 64 if there is none.
unfoldable pub shown_of : PlacesView → ℕ → List ℕ → Reads Stretch
shown_of places pc text = and_then (stretch_of places pc text) (λ range rest.
    if nat_lt range.first range.last then Ok (range, rest)
    else if is_empty rest then Ok (so_many_from range.first 64, rest)
    else second_of places pc range.first rest)

-- ---- settings and levels

abbrev pub set_byte : (ℕ → Setting) → ℕ → List ℕ → Reads Setting
set_byte register value rest = Ok (register value, rest)

-- The value of a register.
abbrev pub value_of : PlacesView → ℕ → Register → List ℕ → Reads Setting
value_of places pc register.A text = and_then (sum_of places Byte text) (set_byte setting.A)
value_of places pc register.X text = and_then (sum_of places Byte text) (set_byte setting.X)
value_of places pc register.Y text = and_then (sum_of places Byte text) (set_byte setting.Y)
value_of places pc register.S text = and_then (sum_of places Byte text) (set_byte setting.S)
value_of places pc register.P text = and_then (sum_of places Byte text) (set_byte setting.P)
value_of places pc register.Pc text = and_then (address_at places pc text) (set_byte setting.Pc)

abbrev pub setting_by : PlacesView → ℕ → List ℕ → Option Register → Reads Setting
setting_by places pc text None = Err (unreadable (word_of text))
setting_by places pc text (Some register) = value_of places pc register (past (byte "=") (after_word text))

-- A register and its value, with `=` between them or without.
abbrev pub setting_of : PlacesView → ℕ → List ℕ → Reads Setting
setting_of places pc text = if is_empty text then Err (missing lacking.Register)
    else setting_by places pc text (register_of (word_of text))

-- The level of the interrupt line: on or off, 1 or 0.
abbrev pub level_of : List ℕ → Reads Bool
level_of text =
    if is_word (codes "on") text || is_word (codes "1") text then Ok (true, after_word text)
    else if is_word (codes "off") text || is_word (codes "0") text then Ok (false, after_word text)
    else Err (missing lacking.Level)

-- What is undone: a whole JSR, or so many events, one if no number is given.
abbrev pub so_many_events : Option ℕ → List ℕ → Reads Undoing
so_many_events count rest = Ok (Events (unwrap_or count 1), rest)

abbrev pub undoing_of : PlacesView → List ℕ → Reads Undoing
undoing_of places text = if is_word (codes "over") text then Ok (Over, after_word text)
    else and_then (count_of places text) so_many_events
