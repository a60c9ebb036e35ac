-- The lines of breaks and watches. Source: mos65.
use Rattle.std.specs.Prelude.{ℕ, ◌/◌, nat_lt, if◌then◌else◌, List, [], ◌∷◌, ◌++◌, Option, None, Some, codes, decimal}
use Rattle.std.specs.List.{flat_map}
use Rattle.model.specs.Text.{hex_address, hex_byte}
use Rattle.mon_lines.specs.declared.command.Compare.{Compare}
use Rattle.mon_lines.specs.declared.command.Compare.TheVariants.{Equal, Other, Less, LessOrEqual, More, MoreOrEqual}
use Rattle.mon_lines.specs.declared.command.Left.{Left}
use Rattle.mon_lines.specs.declared.command.Left.TheVariants as left
use Rattle.mon_lines.specs.declared.command.Register.{Register}
use Rattle.mon_lines.specs.declared.command.Register.TheVariants.{A, X, Y, S, P, Pc}
use Rattle.mon_lines.specs.declared.command.Stretch.{Stretch}
use Rattle.mon_lines.specs.declared.command.Test.{Test}
use Rattle.mon_lines.specs.declared.command.WatchKind.{WatchKind}
use Rattle.mon_lines.specs.declared.command.WatchKind.TheVariants.{Change, Read, Write}
use Rattle.source_map.specs.Names.{Named, name_at}
use Rattle.mon_instructions.specs.Places.{place_text}
use Rattle.opcode_facts.specs.Flag.{flag_letter}
use Rattle.mon_texts.specs.declared.wording.TheConstants.{AND, BREAK_AT, IF, READS, TIMES, TO, WATCH_AT, WATCH_OF, WRITES}

-- ---- tests

abbrev pub register_name : Register → List ℕ
register_name A = codes "A"
register_name X = codes "X"
register_name Y = codes "Y"
register_name S = codes "S"
register_name P = codes "P"
register_name Pc = codes "PC"

-- How a line writes a comparison with a number in hex.
abbrev pub sign : Compare → List ℕ
sign Equal = codes "=$"
sign Other = codes "<>$"
sign Less = codes "<$"
sign LessOrEqual = codes "<=$"
sign More = codes ">$"
sign MoreOrEqual = codes ">=$"

-- The name of an address, or its digits if it has none.
abbrev pub name_or_digits : ℕ → Option (List ℕ) → List ℕ
name_or_digits address (Some name) = name
name_or_digits address None = 36 ∷ hex_address address

abbrev pub left_text : List Named → Left → List ℕ
left_text names (left.Register register) = register_name register
left_text names (left.Flag flag) = flag_letter flag
left_text names (left.Byte address) = name_or_digits address (name_at names address)

-- A number in hex, with two digits if they are enough.
abbrev pub number_text : ℕ → List ℕ
number_text number = if nat_lt 0 (number / 256) then hex_address number else hex_byte number

-- A test as a line writes it.
abbrev pub test_text : List Named → Test → List ℕ
test_text names test
    = left_text names test.left ++ sign test.compare ++ number_text test.right

-- Tests: `if` is before the first, `and` before each further one.
abbrev pub further_test : List Named → Test → List ℕ
further_test names test = AND.now ++ test_text names test

abbrev pub tests_text : List Named → List Test → List ℕ
tests_text names [] = []
tests_text names (test ∷ tests)
    = IF.now ++ test_text names test ++ flat_map (further_test names) tests

-- ---- breaks

-- How often the tests have to hold, if it is more than once.
abbrev pub times_text : ℕ → List ℕ
times_text times = if nat_lt 1 times then TIMES.now ++ decimal times else []

-- Places with commas between them.
abbrev pub further_place : List Named → ℕ → List ℕ
further_place names address = codes ", " ++ place_text names address

abbrev pub places_text : List Named → List ℕ → List ℕ
places_text names [] = []
places_text names (address ∷ others)
    = place_text names address ++ flat_map (further_place names) others

-- The line of breaks that have the same tests: their places, the tests, and how often they have to
-- hold.
unfoldable pub break_line : List Named → List ℕ → List Test → ℕ → List ℕ
break_line names addresses tests times = BREAK_AT.now ++ places_text names addresses
    ++ tests_text names tests ++ times_text times ++ codes "\n"

-- ---- watches

abbrev pub kind_text : WatchKind → List ℕ
kind_text Change = codes "\n"
kind_text Read = READS.now
kind_text Write = WRITES.now

-- The last address, if there is more than one.
abbrev pub last_text : List Named → Stretch → List ℕ
last_text names stretch = if nat_lt stretch.first stretch.last
    then TO.now ++ place_text names stretch.last else []

-- The line of a watch: the first and the last address, and what is watched.
unfoldable pub watch_line : List Named → Stretch → WatchKind → List ℕ
watch_line names stretch kind = WATCH_AT.now ++ place_text names stretch.first
    ++ last_text names stretch ++ kind_text kind

-- The line of a watch of a register.
abbrev pub register_watch_line : Register → List ℕ
register_watch_line register = WATCH_OF.now ++ register_name register ++ codes "\n"
