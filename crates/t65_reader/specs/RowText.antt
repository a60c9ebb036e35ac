-- What a line of a test file says. Source: mos65.
use Rattle.std.specs.Prelude.{ℕ, zero, suc, ◌+◌, ◌-◌, ◌==◌, ◌&&◌, ◌||◌, nat_le, Bool, true, false, not, is_some, if◌then◌else◌, List, [], ◌∷◌, ◌++◌, length, take, drop, codes, Option, Some, None, Result, Ok, Err}
use Rattle.std.specs.Borrow.{Bor}
use Rattle.std.specs.Str.{byte, bytes_eq}
use Rattle.std.specs.List.{prefix_len}
use Rattle.lexer.specs.Front.{is_next}
use Rattle.model.specs.Names.{Definitions}
use Rattle.model.specs.Token.{is_string_byte}
use Rattle.t65_values.specs.declared.fault.RowFault.{RowFault}
use Rattle.t65_values.specs.declared.fault.RowFaultKind.TheVariants.{Syntax, AddressRange, EmptyRange, SecondSource, NoArrow, NoCall, NoPlace, NoRange, NoRelation, NoSeed, NoTime, NotGiven}
use Rattle.t65_values.specs.declared.fault.TextFault.{TextFault}
use Rattle.t65_reader.specs.declared.item.Side.{Side}
use Rattle.t65_reader.specs.declared.item.Side.TheVariants.{Given, Alone, Wanted}
use Rattle.t65_reader.specs.declared.item.StringPlace.{StringPlace}
use Rattle.t65_reader.specs.declared.item.StringPlace.TheVariants.{InMemory, InInput, InOutput}
use Rattle.t65_values.specs.declared.fault.Base.{Base}
use Rattle.t65_values.specs.declared.fault.Base.TheVariants.{Hex, Decimal}
use Rattle.t65_values.specs.declared.value.Letters.{Letters}
use Rattle.t65_values.specs.declared.expression.Atom.{Atom}
use Rattle.t65_values.specs.declared.expression.Atom.TheVariants.{Number}
use Rattle.t65_reader.specs.declared.row.Asking.{Asking}
use Rattle.t65_reader.specs.declared.row.Call.{Call}
use Rattle.t65_reader.specs.declared.row.Choice.{Choice}
use Rattle.t65_reader.specs.declared.row.Choice.TheVariants.{All, Random}
use Rattle.t65_reader.specs.declared.row.Entry.{Entry}
use Rattle.t65_reader.specs.declared.row.Entry.TheVariants.{Subroutine, Interrupt}
use Rattle.opcode_facts.specs.declared.flag.Flag.TheVariants as flag
use Rattle.t65_reader.specs.declared.row.Faulty.{Faulty}
use Rattle.t65_reader.specs.declared.row.Item.{Item}
use Rattle.t65_reader.specs.declared.row.Line.{Line}
use Rattle.t65_reader.specs.declared.row.Line.TheVariants as line
use Rattle.t65_reader.specs.declared.row.Part.{Part}
use Rattle.t65_reader.specs.declared.row.Part.TheVariants.{Test, Setup, Teardown}
use Rattle.t65_reader.specs.declared.row.Target.{Target}
use Rattle.t65_reader.specs.declared.row.Target.TheVariants as place
use Rattle.t65_reader.specs.declared.row.Range.{Range}
use Rattle.t65_reader.specs.declared.row.Ranges.{Ranges}
use Rattle.t65_reader.specs.declared.row.Register.TheVariants as register
use Rattle.t65_reader.specs.declared.row.Relation.{Relation}
use Rattle.t65_reader.specs.declared.row.Relation.TheVariants.{Equal, Unequal, Below, Above, AtMost, AtLeast}
use Rattle.t65_reader.specs.declared.row.Row.{Row}
use Rattle.t65_values.specs.declared.expression.Value.{Value}
use Rattle.t65_reader.specs.declared.row.Request.{Request}
use Rattle.t65_reader.specs.declared.row.Signal.{Signal}
use Rattle.t65_reader.specs.declared.row.Signal.TheVariants.{Irq, Nmi}
use Rattle.t65_reader.specs.CCalls.{Arguments, Prepared, arguments_of, pointer_item, prepared_of, result_after}
use Rattle.t65_reader.specs.CPrograms.{Callee, SeenProgram, callee_of, upper_in}
use Rattle.t65_reader.specs.Items.{equals, item, value_items}
use Rattle.t65_reader.specs.Sequences.{just, sequence_of}
use Rattle.t65_values.specs.ValueText.{Reads, address_of, after_sign, after_word, and_then, ends, fault_at, letter_in, number_of, skip_blanks, value_of, word_of}

-- ---- items

-- The bytes between two `"`, if they close.
abbrev pub string_of : List ℕ → Result (List ℕ × List ℕ) RowFault
string_of text =
    let inside = drop 1 text in
    let count = prefix_len is_string_byte inside in
    if is_next 34 (drop count inside)
    then Ok (take count inside, skip_blanks (drop 1 (drop count inside)))
    else Err (fault_at Syntax text)

-- The places of registers, flags and cycles by their words.
unfoldable pub place_of : List ℕ → Option Target
place_of word =
    if bytes_eq word (codes "A") then Some (place.Register register.A)
    else if bytes_eq word (codes "X") then Some (place.Register register.X)
    else if bytes_eq word (codes "Y") then Some (place.Register register.Y)
    else if bytes_eq word (codes "S") then Some (place.Register register.S)
    else if bytes_eq word (codes "P") then Some (place.Register register.P)
    else if bytes_eq word (codes "N") then Some (place.Flag flag.N)
    else if bytes_eq word (codes "V") then Some (place.Flag flag.V)
    else if bytes_eq word (codes "D") then Some (place.Flag flag.D)
    else if bytes_eq word (codes "I") then Some (place.Flag flag.I)
    else if bytes_eq word (codes "Z") then Some (place.Flag flag.Z)
    else if bytes_eq word (codes "C") then Some (place.Flag flag.C)
    else if bytes_eq word (codes "cycles") then Some place.Cycles
    else None

abbrev pub either_of : Bool → Relation → Relation → Relation
either_of is_equal with_equal alone = if is_equal then with_equal else alone

-- The relation that a sign begins, behind which `=` comes or not.
abbrev pub relation_of : ℕ → Bool → Option Relation
relation_of sign is_equal =
    if sign == byte "=" then Some Equal
    else if sign == byte "<" then Some (either_of is_equal AtMost Below)
    else if sign == byte ">" then Some (either_of is_equal AtLeast Above)
    else if sign == byte "!" then (if is_equal then Some Unequal else None)
    else None

-- The relation that comes next: `=`, `!=`, `<`, `<=`, `>` or `>=`.
abbrev pub relation_at : List ℕ → Option Relation
relation_at [] = None
relation_at (sign ∷ text) = relation_of sign (is_next (byte "=") text)

abbrev pub sign_count : Relation → ℕ
sign_count Equal = 1
sign_count Unequal = 2
sign_count Below = 1
sign_count Above = 1
sign_count AtMost = 2
sign_count AtLeast = 2

-- Cycles are counted, so their number is decimal.
abbrev pub base_of : Target → Base
base_of place.Cycles = Decimal
base_of place = Hex

-- Whether a place may be given something so: what is given is set, and so is input alone; cycles
-- and output are only looked at.
abbrev pub is_gift : Target → Relation → Bool
is_gift place.Cycles relation = false
is_gift place Equal = true
is_gift place relation = false

-- Whether a side of a row may say so.
unfoldable pub fits : Side → Target → Relation → Bool
fits Given place relation = is_gift place relation
fits Alone place relation = is_gift place relation
fits Wanted place relation = true

abbrev pub Items : Type 0
Items = Reads (List Item)

-- How many bytes of output are expected.
abbrev pub count_items : StringPlace → List Value → List Item
count_items InOutput values = equals place.OutputCount (just (Number (length values))) ∷ []
count_items InMemory values = []
count_items InInput values = []

-- The items of bytes in order from an index on; none of them past 65535.
abbrev pub within_addresses : List ℕ → StringPlace → ℕ → List Value → List ℕ → Items
within_addresses text at index values rest = if nat_le (index + length values) 65536
    then Ok (value_items at index values ++ count_items at values, rest)
    else Err (fault_at AddressRange text)

-- Bytes in order: values, random bytes and strings, with commas between them.
unfoldable pub sequence_at : Definitions → Letters → StringPlace → ℕ → List ℕ → Items
sequence_at names letters at index text
    = and_then (sequence_of names letters index text) (within_addresses text at index)

abbrev pub one_item : Target → Relation → Value → List ℕ → Items
one_item place relation value rest = Ok (item place relation value ∷ [], rest)

-- A place and what it is given or compared with.
abbrev pub item_by : Definitions → Letters → Side → Target → List ℕ → Option Relation → Items
item_by names letters side place text None = Err (fault_at NoRelation text)
item_by names letters side place text (Some relation) = if fits side place relation
    then and_then (value_of names letters (base_of place)
    (skip_blanks (drop (sign_count relation) text))) (one_item place relation)
    else Err (fault_at NotGiven text)

-- What stands after an address and `.`: `w`, and what the two bytes from there on are given or
-- compared with.
unfoldable pub word_item : Definitions → Letters → Side → ℕ → List ℕ → Items
word_item names letters side address text = if bytes_eq (word_of text) (codes "w")
    then item_by names letters side (place.Word address) (after_word text)
    (relation_at (after_word text))
    else Err (fault_at Syntax text)

-- Bytes of memory: those that they are given or equal, in order, a value of two bytes, or another
-- relation and a value.
unfoldable pub memory_item : Definitions → Letters → Side → ℕ → List ℕ → Items
memory_item names letters side address text =
    if is_next (byte ".") text then word_item names letters side address (skip_blanks (drop 1 text))
    else if is_next (byte "=") text
    then sequence_at names letters InMemory address (skip_blanks (drop 1 text))
    else item_by names letters side (place.Byte address) text (relation_at text)

abbrev pub after_bracket : Definitions → Letters → Side → ℕ → Result (List ℕ) RowFault → Items
after_bracket names letters side address (Ok rest) = memory_item names letters side address rest
after_bracket names letters side address (Err fault) = Err fault

-- What stands after `[`.
unfoldable pub bracket_item : Definitions → Letters → Side → List ℕ → Items
bracket_item names letters side text = and_then (address_of names text) (λ address rest.
    after_bracket names letters side address (after_sign (byte "]") rest))

-- A place alone is given the value of its letter, or compared with it.
abbrev pub letter_item : Target → List ℕ → Option Atom → Items
letter_item place text (Some atom) = Ok (equals place (just atom) ∷ [], text)
letter_item place text None = Err (fault_at NoRelation text)

-- The fault where a side of a row has no item: `->` is missing where the line ends.
abbrev pub lack_at : Side → List ℕ → RowFault
lack_at Given text = if ends text then fault_at NoArrow text else fault_at NoPlace text
lack_at Alone text = fault_at NoPlace text
lack_at Wanted text = fault_at NoPlace text

abbrev pub place_item : Definitions → Letters → Side → List ℕ → Option Target → Items
place_item names letters side text None = Err (lack_at side text)
place_item names letters side text (Some place) =
    if is_some (relation_at (after_word text))
    then item_by names letters side place (after_word text) (relation_at (after_word text))
    else letter_item place (after_word text) (letter_in letters (word_of text))

abbrev pub sequence_after : Definitions → Letters → StringPlace → Result (List ℕ) RowFault → Items
sequence_after names letters at (Ok rest) = sequence_at names letters at 0 rest
sequence_after names letters at (Err fault) = Err fault

-- The word before bytes of input or output, and where they stand.
abbrev pub string_word : Side → List ℕ
string_word Given = codes "in"
string_word Alone = codes "in"
string_word Wanted = codes "out"

abbrev pub string_place : Side → StringPlace
string_place Given = InInput
string_place Alone = InInput
string_place Wanted = InOutput

-- One item of a side of a row: memory in brackets, input or output, or a register, a flag or the
-- cycles.
unfoldable pub item_of : Definitions → Letters → Side → List ℕ → Items
item_of names letters side text =
    if is_next (byte "[") text then bracket_item names letters side (skip_blanks (drop 1 text))
    else if bytes_eq (word_of text) (string_word side)
    then sequence_after names letters (string_place side)
    (after_sign (byte "=") (after_word text))
    else place_item names letters side text (place_of (word_of text))

-- ---- rows

-- `->` ends what is given, the line's end what is wanted. Of a call that need not leave anything
-- the line's end ends what is given too.
abbrev pub is_arrow : List ℕ → Bool
is_arrow text = is_next (byte "-") text && is_next (byte ">") (drop 1 text)

abbrev pub is_over : Side → List ℕ → Bool
is_over Given text = is_arrow text
is_over Alone text = is_arrow text || ends text
is_over Wanted text = ends text

-- Items that were read, before more of them.
unfoldable pub before : List Item → Items → Items
before items more = and_then more (λ others rest. Ok (items ++ others, rest))

-- The items of a side; so many at most. Each has a byte at least, so as many as there are bytes are
-- enough.
unfoldable pub items_within : ℕ → Definitions → Letters → Side → List ℕ → Items
items_within zero names letters side text = if is_over side text then Ok ([], text)
    else Err (lack_at side text)
items_within (suc n) names letters side text =
    if is_over side text then Ok ([], text)
    else and_then (item_of names letters side text)
    (λ items rest. before items (items_within n names letters side rest))

abbrev pub items_of : Definitions → Letters → Side → List ℕ → Items
items_of names letters side text = items_within (length text) names letters side text

-- What stands behind `->`; nothing where the line ends before.
abbrev pub after_arrow : List ℕ → List ℕ
after_arrow text = if is_arrow text then skip_blanks (drop 2 text) else text

-- A routine that is called, the interrupt that comes into the call, what is given before, and what is
-- wanted after it.
pub record SeenCall : Type 0 where
  pub entry : Entry
  pub address : ℕ
  pub request : Option Request
  pub given : List Item
  pub wanted : List Item
  pub steps : ℕ

-- What a row says.
pub record SeenRow : Type 0 where
  pub part : Part
  pub ranges : Ranges
  pub choice : Choice
  pub call : SeenCall
  pub points : ℕ

-- The most steps of a call, where nothing else is asked for. Source: mos65.
abbrev pub most_steps : ℕ
most_steps = 10000000

abbrev pub letter_of : Option Range → Option ℕ
letter_of None = None
letter_of (Some range) = Some range.letter

abbrev pub letters_of : Ranges → Letters
letters_of ranges = record {
  first = letter_of ranges.first;
  second = letter_of ranges.second;
  third = letter_of ranges.third;
  fourth = letter_of ranges.fourth;
}

abbrev pub no_ranges : Ranges
no_ranges = record { first = None; second = None; third = None; fourth = None }

abbrev pub without_rest : {X : Type 0} → Reads X → Result X RowFault
without_rest (Ok read) = Ok read.0
without_rest (Err fault) = Err fault

-- A call: its address, what is given, `->`, and what is wanted.
unfoldable pub call_of : Definitions → Letters → Side → Entry → List ℕ → Result SeenCall RowFault
call_of names letters side entry text = without_rest (
    and_then (address_of names text) (λ address rest.
    and_then (items_of names letters side rest) (λ given rest.
    and_then (items_of names letters Wanted (after_arrow rest)) (λ wanted rest.
    Ok (
      record {
        entry = entry;
        address = address;
        request = None;
        given = given;
        wanted = wanted;
        steps = most_steps;
      },
      rest,
    )))))

-- ---- calls of functions of C

-- `result`, `=` and what a function has to return, if that comes next.
unfoldable pub result_items : Definitions → Letters → List ℕ → Items
result_items names letters text = if bytes_eq (word_of text) (codes "result")
    then result_after names letters (after_sign (byte "=") (after_word text))
    else Ok ([], text)

abbrev pub c_call : ℕ → List Item → List Item → SeenCall
c_call address given wanted = record {
  entry = Subroutine;
  address = address;
  request = None;
  given = given;
  wanted = wanted;
  steps = most_steps;
}

-- The row that makes a call of a function: the items of its arguments, and those that the row has;
-- behind `->` the software stack pointer, the result, and what else is wanted.
unfoldable pub called_function : Definitions → Letters → Callee → Prepared → List ℕ
    → Result SeenCall RowFault
called_function names letters callee prepared text = without_rest (
    and_then (items_of names letters Alone text) (λ given rest.
    and_then (result_items names letters (after_arrow rest)) (λ results rest.
    and_then (items_of names letters Wanted rest) (λ wanted rest.
    Ok (
      c_call callee.address (prepared.given ++ given)
          (pointer_item callee.pointer prepared.start ∷ results ++ wanted),
      rest,
    )))))

abbrev pub prepared_call : Definitions → Letters → Callee → List ℕ → Result Prepared RowFault
    → Result SeenCall RowFault
prepared_call names letters callee rest (Ok prepared)
    = called_function names letters callee prepared rest
prepared_call names letters callee rest (Err fault) = Err fault

abbrev pub argued_call : Definitions → Letters → Callee → List ℕ → Arguments
    → Result SeenCall RowFault
argued_call names letters callee text (Ok read) = prepared_call names letters callee read.1
    (prepared_of (upper_in names) callee text read.0.0 read.0.1)
argued_call names letters callee text (Err fault) = Err fault

abbrev pub callee_call : Definitions → Letters → List ℕ → Result Callee RowFault
    → Result SeenCall RowFault
callee_call names letters text (Ok callee) = argued_call names letters callee text
    (arguments_of names letters [] [] callee.sizes (skip_blanks (drop 1 (after_word text))))
callee_call names letters text (Err fault) = Err fault

-- The name of a function, its arguments between `(` and `)`, and what else a call has. It need not
-- leave anything.
unfoldable pub c_call_of : Definitions → SeenProgram → Letters → List ℕ
    → Result SeenCall RowFault
c_call_of names program letters text
    = callee_call names letters text (callee_of names program text)

-- A call of a function of C has `(` behind its name.
abbrev pub is_function_next : List ℕ → Bool
is_function_next text = is_next (byte "(") (after_word text)

-- A subroutine, or a function of C.
abbrev pub subroutine_of : Definitions → SeenProgram → Letters → Side → List ℕ
    → Result SeenCall RowFault
subroutine_of names program letters side text = if is_function_next text
    then c_call_of names program letters text
    else call_of names letters side Subroutine text

-- `call` with a subroutine, or `interrupt` with a handler.
unfoldable pub entered_of : Definitions → SeenProgram → Letters → Side → List ℕ
    → Result SeenCall RowFault
entered_of names program letters side text =
    if bytes_eq (word_of text) (codes "call")
    then subroutine_of names program letters side (after_word text)
    else if bytes_eq (word_of text) (codes "interrupt")
    then call_of names letters side Interrupt (after_word text)
    else Err (fault_at NoCall text)

-- `cycle` and how many cycles, which are decimal.
unfoldable pub cycle_of : Definitions → Letters → List ℕ → Reads Value
cycle_of names letters text = if bytes_eq (word_of text) (codes "cycle")
    then value_of names letters Decimal (after_word text)
    else Err (fault_at NoTime text)

-- When an interrupt is asked for: `at cycle`, and how many cycles.
unfoldable pub time_of : Definitions → Letters → List ℕ → Reads Value
time_of names letters text = if bytes_eq (word_of text) (codes "at")
    then cycle_of names letters (after_word text)
    else Err (fault_at NoTime text)

-- A call with an interrupt that comes into it.
abbrev pub requested : Signal → Value → Result SeenCall RowFault → Result SeenCall RowFault
requested signal cycle (Ok call)
    = Ok (record call { request = Some (record { signal = signal; cycle = cycle }) })
requested signal cycle (Err fault) = Err fault

abbrev pub requested_by : Definitions → SeenProgram → Letters → Side → Signal → Value
    → Result (List ℕ) RowFault → Result SeenCall RowFault
requested_by names program letters side signal cycle (Ok rest)
    = requested signal cycle (entered_of names program letters side rest)
requested_by names program letters side signal cycle (Err fault) = Err fault

abbrev pub requested_in : Definitions → SeenProgram → Letters → Side → Signal → Reads Value
    → Result SeenCall RowFault
requested_in names program letters side signal (Ok read)
    = requested_by names program letters side signal read.0 (after_sign (byte ":") read.1)
requested_in names program letters side signal (Err fault) = Err fault

-- When an interrupt is asked for, `:` and the call that it comes into.
unfoldable pub requested_of : Definitions → SeenProgram → Letters → Side → Signal → List ℕ
    → Result SeenCall RowFault
requested_of names program letters side signal text
    = requested_in names program letters side signal (time_of names letters text)

-- A call, and before it `irq` or `nmi` with when that is asked for, if an interrupt comes into it.
unfoldable pub called_of : Definitions → SeenProgram → Letters → Side → List ℕ
    → Result SeenCall RowFault
called_of names program letters side text =
    if bytes_eq (word_of text) (codes "irq")
    then requested_of names program letters side Irq (after_word text)
    else if bytes_eq (word_of text) (codes "nmi")
    then requested_of names program letters side Nmi (after_word text)
    else entered_of names program letters side text

abbrev pub row_with : Part → Ranges → Choice → Result SeenCall RowFault → Result SeenRow RowFault
row_with part ranges choice (Ok call) = Ok (record {
  part = part;
  ranges = ranges;
  choice = choice;
  call = call;
  points = 1;
})
row_with part ranges choice (Err fault) = Err fault

-- The letter of a range: one capital letter.
abbrev pub range_letter : List ℕ → Option ℕ
range_letter (b ∷ []) = if nat_le (byte "A") b && nat_le b (byte "Z") then Some b else None
range_letter word = None

abbrev pub range_between : List ℕ → ℕ → ℕ → ℕ → List ℕ → Reads Range
range_between text letter first last rest = if nat_le first last
    then Ok (record { letter = letter; first = first; last = last }, rest)
    else Err (fault_at EmptyRange text)

-- The two dots between the first value and the last.
abbrev pub after_dots : List ℕ → Result (List ℕ) RowFault
after_dots text = if is_next (byte ".") text && is_next (byte ".") (drop 1 text)
    then Ok (skip_blanks (drop 2 text)) else Err (fault_at NoRange text)

abbrev pub last_after : List ℕ → ℕ → ℕ → Result (List ℕ) RowFault → Reads Range
last_after text letter first (Ok rest) = and_then (number_of Hex rest) (range_between text letter first)
last_after text letter first (Err fault) = Err fault

-- What stands after a range's letter.
unfoldable pub values_of : ℕ → List ℕ → Reads Range
values_of letter text = if bytes_eq (word_of text) (codes "in")
    then and_then (number_of Hex (after_word text)) (λ first rest.
    last_after (after_word text) letter first (after_dots rest))
    else Err (fault_at NoRange text)

abbrev pub range_by : List ℕ → Option ℕ → Reads Range
range_by text None = Err (fault_at NoRange text)
range_by text (Some letter) = values_of letter (after_word text)

-- A letter, `in`, the first value, `..` and the last.
unfoldable pub range_of : List ℕ → Reads Range
range_of text = range_by text (range_letter (word_of text))

-- A further range, if a comma comes next.
unfoldable pub next_range : List ℕ → Reads (Option Range)
next_range text =
    if is_next (byte ",") text
    then and_then (range_of (skip_blanks (drop 1 text))) (λ range rest. Ok (Some range, rest))
    else Ok (None, text)

-- One range to four, with commas between them.
unfoldable pub ranges_of : List ℕ → Reads Ranges
ranges_of text =
    and_then (range_of text) (λ first rest.
    and_then (next_range rest) (λ second rest.
    and_then (next_range rest) (λ third rest.
    and_then (next_range rest) (λ fourth rest.
    Ok (record { first = Some first; second = second; third = third; fourth = fourth }, rest)))))

-- What a row has to leave stands behind `->`; a call before or after each row need not leave
-- anything.
abbrev pub side_of : Part → Side
side_of Test = Given
side_of Setup = Alone
side_of Teardown = Alone

-- A row with the call that a text says.
abbrev pub row_at : Definitions → SeenProgram → Part → Ranges → Choice → List ℕ
    → Result SeenRow RowFault
row_at names program part ranges choice text = row_with part ranges choice
    (called_of names program (letters_of ranges) (side_of part) text)

abbrev pub chosen_by : Definitions → SeenProgram → Choice → Ranges → Result (List ℕ) RowFault
    → Result SeenRow RowFault
chosen_by names program choice ranges (Ok rest) = row_at names program Test ranges choice rest
chosen_by names program choice ranges (Err fault) = Err fault

abbrev pub chosen_in : Definitions → SeenProgram → Choice → Reads Ranges → Result SeenRow RowFault
chosen_in names program choice (Ok read)
    = chosen_by names program choice read.0 (after_sign (byte ":") read.1)
chosen_in names program choice (Err fault) = Err fault

-- Ranges, `:` and a call for values of them.
unfoldable pub chosen_of : Definitions → SeenProgram → Choice → List ℕ → Result SeenRow RowFault
chosen_of names program choice text = chosen_in names program choice (ranges_of text)

-- How often a call is made: once at least.
unfoldable pub count_of : List ℕ → Reads ℕ
count_of text = and_then (number_of Decimal text) (λ count rest.
    if count == 0 then Err (fault_at Syntax text) else Ok (count, rest))

-- Where the numbers begin.
unfoldable pub seed_of : List ℕ → Reads ℕ
seed_of text = if bytes_eq (word_of text) (codes "seed") then number_of Decimal (after_word text)
    else Err (fault_at NoSeed text)

-- A call for values of ranges, or where no letter of a range stands there, a call alone.
unfoldable pub drawn_of : Definitions → SeenProgram → Choice → List ℕ → Result SeenRow RowFault
drawn_of names program choice text = if is_some (range_letter (word_of text))
    then chosen_of names program choice text
    else row_at names program Test no_ranges choice text

abbrev pub random_by : Definitions → SeenProgram → ℕ → ℕ → Result (List ℕ) RowFault
    → Result SeenRow RowFault
random_by names program count seed (Ok rest) = drawn_of names program (Random count seed) rest
random_by names program count seed (Err fault) = Err fault

abbrev pub random_in : Definitions → SeenProgram → Reads (ℕ × ℕ) → Result SeenRow RowFault
random_in names program (Ok read)
    = random_by names program read.0.0 read.0.1 (after_sign (byte ":") read.1)
random_in names program (Err fault) = Err fault

-- How many times, `seed`, where the numbers begin, `:`, and a call, for values of ranges or alone.
unfoldable pub random_of : Definitions → SeenProgram → List ℕ → Result SeenRow RowFault
random_of names program text = random_in names program (and_then (count_of text) (λ count rest.
    and_then (seed_of rest) (λ seed rest. Ok ((count, seed), rest))))

-- A call for all values of ranges or for some, or a call alone.
unfoldable pub row_of : Definitions → SeenProgram → List ℕ → Result SeenRow RowFault
row_of names program text =
    if bytes_eq (word_of text) (codes "all") then chosen_of names program All (after_word text)
    else if bytes_eq (word_of text) (codes "random") then random_of names program (after_word text)
    else row_at names program Test no_ranges All text

-- A row that is worth so many points.
abbrev pub worth : ℕ → Result SeenRow RowFault → Result SeenRow RowFault
worth points (Ok row) = Ok (record row { points = points })
worth points (Err fault) = Err fault

abbrev pub worth_by : Definitions → SeenProgram → Reads ℕ → Result SeenRow RowFault
worth_by names program (Ok read) = worth read.0 (row_of names program read.1)
worth_by names program (Err fault) = Err fault

abbrev pub decimal_after : Result (List ℕ) RowFault → Reads ℕ
decimal_after (Ok rest) = number_of Decimal rest
decimal_after (Err fault) = Err fault

-- `=`, and how many points a row is worth.
abbrev pub points_after : List ℕ → Reads ℕ
points_after text = decimal_after (after_sign (byte "=") text)

-- A row, and `points=` with a decimal number before it: otherwise it is worth one point.
unfoldable pub pointed_row_of : Definitions → SeenProgram → List ℕ → Result SeenRow RowFault
pointed_row_of names program text = if bytes_eq (word_of text) (codes "points")
    then worth_by names program (points_after (after_word text))
    else row_of names program text

abbrev pub around_by : Definitions → SeenProgram → Part → Result (List ℕ) RowFault
    → Result SeenRow RowFault
around_by names program part (Ok rest) = row_at names program part no_ranges All rest
around_by names program part (Err fault) = Err fault

-- `:` and a call that is made before each row, or after it.
unfoldable pub around_of : Definitions → SeenProgram → Part → List ℕ → Result SeenRow RowFault
around_of names program part text = around_by names program part (after_sign (byte ":") text)

-- The text of a row behind `hidden`, if that stands before it: of such a row no text is told.
abbrev pub unhidden : List ℕ → List ℕ
unhidden text = if bytes_eq (word_of text) (codes "hidden") then after_word text else text

-- A call before each row, one after each, or a row.
unfoldable pub part_of : Definitions → SeenProgram → List ℕ → Result SeenRow RowFault
part_of names program text =
    if bytes_eq (word_of text) (codes "setup") then around_of names program Setup (after_word text)
    else if bytes_eq (word_of text) (codes "teardown")
    then around_of names program Teardown (after_word text)
    else pointed_row_of names program (unhidden text)

-- ---- what is asked of rows

-- The most steps of a call; where random numbers begin, if not where the rows say; and the routine
-- whose rows alone are read: those of all routines, where this is no byte.
pub record SeenAsking : Type 0 where
  pub steps : ℕ
  pub seed : Option ℕ
  pub only : List ℕ

abbrev pub is_call : List ℕ → Bool
is_call word = bytes_eq word (codes "call") || bytes_eq word (codes "interrupt")

-- A text without the word, or the byte that is in none, at its front.
abbrev pub behind_word : List ℕ → List ℕ
behind_word text = if length (word_of text) == 0 then drop 1 text else after_word text

-- The word behind the first `call` or `interrupt` of a text, or no byte; so many words are looked at.
unfoldable pub routine_in : ℕ → List ℕ → List ℕ
routine_in zero text = []
routine_in (suc n) text = if is_call (word_of text) then word_of (after_word text)
    else routine_in n (behind_word text)

-- The routine that a line names, whether it can be read as a row or not.
abbrev pub routine_of : List ℕ → List ℕ
routine_of line = routine_in (length line) line

abbrev pub is_picked : List ℕ → List ℕ → Bool
is_picked only line = (length only == 0) || bytes_eq (routine_of line) only

-- A line says what is run before or after each row.
abbrev pub is_around : List ℕ → Bool
is_around line = bytes_eq (word_of (skip_blanks line)) (codes "setup")
    || bytes_eq (word_of (skip_blanks line)) (codes "teardown")

-- A row of another routine than the one whose rows alone are read.
abbrev pub is_left_out : List ℕ → List ℕ → Bool
is_left_out only line = not (is_picked only line) && not (is_around line)

abbrev pub seeded : Option ℕ → Choice → Choice
seeded None choice = choice
seeded (Some seed) All = All
seeded (Some seed) (Random count old) = Random count seed

-- A row as it is asked for.
abbrev pub asked_for : SeenAsking → SeenRow → SeenRow
asked_for asking row = record row {
  choice = seeded asking.seed row.choice;
  call = record row.call { steps = asking.steps };
}

abbrev pub some_row : SeenAsking → Result SeenRow RowFault → Result (Option SeenRow) RowFault
some_row asking (Ok row) = Ok (Some (asked_for asking row))
some_row asking (Err fault) = Err fault

abbrev pub line_at : SeenAsking → Definitions → SeenProgram → List ℕ
    → Result (Option SeenRow) RowFault
line_at asking names program text =
    if ends text then Ok None
    else if bytes_eq (word_of text) (codes "source") then Err (fault_at SecondSource text)
    else some_row asking (part_of names program text)

-- What a line says after the one that names the source: nothing, or a row as it is asked for.
unfoldable pub line_of : SeenAsking → Definitions → SeenProgram → List ℕ
    → Result (Option SeenRow) RowFault
line_of asking names program line = if is_left_out asking.only line then Ok None
    else line_at asking names program (skip_blanks line)

-- ---- rows that cannot be read

-- No text is told of the row of a line.
abbrev pub is_hidden : List ℕ → Bool
is_hidden line = bytes_eq (word_of (skip_blanks line)) (codes "hidden")

abbrev pub points_or_one : Reads ℕ → ℕ
points_or_one (Ok read) = read.0
points_or_one (Err fault) = 1

unfoldable pub points_before : List ℕ → ℕ
points_before text = if bytes_eq (word_of text) (codes "points")
    then points_or_one (points_after (after_word text))
    else 1

-- How many points the row of a line is worth, whether it can be read or not.
abbrev pub points_in : List ℕ → ℕ
points_in line = points_before (unhidden (skip_blanks line))

-- How many points a line is worth: none where it is blank or a comment, or says what is run before
-- or after each row, or is left out.
abbrev pub worth_of : List ℕ → List ℕ → ℕ
worth_of only line =
    if ends (skip_blanks line) then 0
    else if is_around line then 0
    else if is_left_out only line then 0
    else points_in line

-- How many points the rows of some lines are worth together, whether they can be read or not.
unfoldable pub points_of : List ℕ → List (List ℕ) → ℕ
points_of only [] = 0
points_of only (line ∷ lines) = worth_of only line + points_of only lines

-- The fault of a line: its line and its column, both counted from 1, and its kind.
abbrev pub fault_in : ℕ → List ℕ → RowFault → TextFault
fault_in number line fault = record {
  line = number;
  column = length line - fault.left + 1;
  kind = fault.kind;
}

-- What a line asks for: a row, with the number of the line, or what cannot be read as one.
pub data SeenLine : Type 0 where
  readable : ℕ × SeenRow → SeenLine
  faulty : Faulty → SeenLine

abbrev pub line_number : SeenLine → ℕ
line_number (readable row) = row.0
line_number (faulty row) = row.fault.line

abbrev pub line_points : SeenLine → ℕ
line_points (readable row) = row.1.points
line_points (faulty row) = row.points

-- ---- all lines

-- What some lines ask for, one after another; or why nothing is, since all rows need what is run
-- before and after them: the first fault of a line that says so.
abbrev pub Rows : Type 0
Rows = Result (List SeenLine) TextFault

abbrev pub one_before : SeenLine → Rows → Rows
one_before line (Ok lines) = Ok (line ∷ lines)
one_before line (Err fault) = Err fault

abbrev pub row_before : ℕ → Option SeenRow → Rows → Rows
row_before number None rows = rows
row_before number (Some row) rows = one_before (readable (number, row)) rows

-- A row with a fault is a row that cannot be read, and no other row is less a row for it.
abbrev pub fault_before : Bool → ℕ → TextFault → Rows → Rows
fault_before true points fault rows = Err fault
fault_before false points fault rows
    = one_before (faulty (record { fault = fault; points = points })) rows

abbrev pub line_before : ℕ → List ℕ → Result (Option SeenRow) RowFault → Rows → Rows
line_before number line (Ok row) rows = row_before number row rows
line_before number line (Err fault) rows
    = fault_before (is_around line) (points_in line) (fault_in number line fault) rows

unfoldable pub rows_from : SeenAsking → Definitions → SeenProgram → ℕ → List (List ℕ) → Rows
rows_from asking names program number [] = Ok []
rows_from asking names program number (line ∷ lines)
    = line_before number line (line_of asking names program line)
    (rows_from asking names program (number + 1) lines)

-- What is asked of rows as the code keeps it.
abbrev pub asking_view : Asking → SeenAsking
asking_view asking
    = record { steps = asking.steps; seed = asking.seed; only = asking.only.now }

-- A call and a row as the code keeps them.
abbrev pub call_view : Call → SeenCall
call_view call = record {
  entry = call.entry;
  address = call.address;
  request = call.request;
  given = call.given.items;
  wanted = call.wanted.items;
  steps = call.steps;
}

abbrev pub row_view : Row → SeenRow
row_view row = record {
  part = row.part;
  ranges = row.ranges;
  choice = row.choice;
  call = call_view row.call;
  points = row.points;
}

abbrev pub numbered_view : ℕ × Row → ℕ × SeenRow
numbered_view numbered = (numbered.0, row_view numbered.1)

-- A row with its line, without where it lies in memory.
abbrev pub row_seen : Bor (ℕ × Row) → ℕ × SeenRow
row_seen row = numbered_view row.now

abbrev pub line_view : Line → SeenLine
line_view (line.Row row) = readable (numbered_view row)
line_view (line.Faulty row) = faulty row

-- What a line asks for, without where it lies in memory.
abbrev pub line_seen : Bor Line → SeenLine
line_seen line = line_view line.now

-- Lines that were read, before those behind them.
unfoldable pub rows_after : List SeenLine → Rows → Rows
rows_after lines (Ok more) = Ok (lines ++ more)
rows_after lines (Err fault) = Err fault
