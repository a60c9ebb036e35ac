-- Places, values and rows as text. Source: mos65.
use Rattle.std.specs.Prelude.{ℕ, ◌-◌, ◌^◌, true, false, List, [], ◌∷◌, ◌++◌, codes, decimal, encode_utf8}
use Rattle.std.specs.Fmt.{digits, format_spec, padded_integral}
use Rattle.opcode_facts.specs.Flag.{flag_letter}
use Rattle.t65_reader.specs.declared.row.Target.{Target}
use Rattle.t65_reader.specs.declared.row.Target.TheVariants as place
use Rattle.t65_reader.specs.declared.row.Range.{Range}
use Rattle.t65_reader.specs.declared.row.Register.{Register}
use Rattle.t65_reader.specs.declared.row.Register.TheVariants as register
use Rattle.t65_reader.specs.declared.row.Relation.{Relation}
use Rattle.t65_reader.specs.declared.row.Relation.TheVariants.{Equal, Unequal, Below, Above, AtMost, AtLeast}
use Rattle.t65_failures.specs.declared.wording.TheConstants.{CYCLES, INPUT, OUTPUT_BYTE, OUTPUT_COUNT}

-- So many capital hex digits, more where a number has more.
abbrev pub hex_of : ℕ → ℕ → List ℕ
hex_of width number = padded_integral (format_spec 32 0 4 width (2 ^ 64 - 1)) false []
    (digits 16 true number)

-- A byte, an address and a count behind words.
unfoldable pub named_byte : List ℕ → ℕ → List ℕ
named_byte words byte = words ++ hex_of 2 byte

unfoldable pub named_address : List ℕ → ℕ → List ℕ
named_address words address = words ++ hex_of 4 address

unfoldable pub named_count : List ℕ → ℕ → List ℕ
named_count words count = words ++ decimal count

abbrev pub register_name : Register → List ℕ
register_name register.A = codes "A"
register_name register.X = codes "X"
register_name register.Y = codes "Y"
register_name register.S = codes "S"
register_name register.P = codes "P"

-- A place as a row names it.
abbrev pub place_text : Target → List ℕ
place_text (place.Register register) = register_name register
place_text (place.Flag flag) = flag_letter flag
place_text (place.Byte address) = codes "[" ++ hex_of 4 address ++ codes "]"
place_text (place.Word address) = codes "[" ++ hex_of 4 address ++ codes "].w"
place_text place.Input = INPUT.now
place_text (place.Output index) = OUTPUT_BYTE.now ++ decimal index
place_text place.OutputCount = OUTPUT_COUNT.now
place_text place.Cycles = CYCLES.now

-- A relation as a row writes it.
abbrev pub relation_text : Relation → List ℕ
relation_text Equal = codes "="
relation_text Unequal = codes "!="
relation_text Below = codes "<"
relation_text Above = codes ">"
relation_text AtMost = codes "<="
relation_text AtLeast = codes ">="

-- A number as a row would write it for a place.
abbrev pub number_text : Target → ℕ → List ℕ
number_text place.Cycles number = decimal number
number_text place.OutputCount number = decimal number
number_text (place.Flag flag) number = decimal number
number_text (place.Word address) number = hex_of 4 number
number_text place number = hex_of 2 number

-- The letter of a range, and its value.
abbrev pub value_text : Range → ℕ → List ℕ
value_text range value = encode_utf8 range.letter ++ 61 ∷ hex_of 2 value
