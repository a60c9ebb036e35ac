-- When a row passes: what its values are, what is given before its call, and what is wanted after
-- it. Source: mos65.
use Rattle.std.specs.Prelude.{ℕ, zero, suc, ◌+◌, ◌-◌, ◌*◌, ◌/◌, ◌%◌, ◌==◌, ◌&&◌, nat_le, nat_lt, not, Bool, false, if◌then◌else◌, bit_and, bit_or, bit_xor, is_some, List, [], ◌∷◌, length, map, slice_get, slice_index, Option, Some, None, Result, Ok, Err}
use Rattle.std.specs.Borrow.{Bor}
use Rattle.std.specs.List.{list_all}
use Rattle.std.specs.Option.{option_or}
use Rattle.model.specs.Arithmetic.{bit}
use Rattle.model.specs.Effect.{status}
use Rattle.model.specs.Event.{event_of}
use Rattle.model.specs.Session.{Session, with_state}
use Rattle.model.specs.State.{State}
use Rattle.model.specs.declared.event.Event.{Event}
use Rattle.model.specs.declared.event.Event.TheVariants as event
use Rattle.model.specs.declared.event.EventFault.{EventFault}
use Rattle.model.specs.declared.event.Setting.{Setting}
use Rattle.model.specs.declared.event.Setting.TheVariants as setting
use Rattle.model.specs.declared.registers.Regs.{Regs}
use Rattle.model.specs.declared.run_end.RunEnd.{RunEnd}
use Rattle.model.specs.declared.run_end.Why.{Why}
use Rattle.model.specs.declared.run_end.Why.TheVariants.{Break}
use Rattle.model.specs.declared.session_fault.SessionFault.{SessionFault}
use Rattle.opcode_facts.specs.Flag.{has_flag, with_flag}
use Rattle.rig.specs.Subroutine.{byte_patched, call_of, return_address}
use Rattle.t65_reader.specs.RowText.{SeenCall, SeenRow, row_seen}
use Rattle.t65_values.specs.declared.expression.Atom.{Atom}
use Rattle.t65_values.specs.declared.expression.Atom.TheVariants as atom
use Rattle.t65_reader.specs.declared.row.Entry.{Entry}
use Rattle.t65_reader.specs.declared.row.Entry.TheVariants.{Subroutine, Interrupt}
use Rattle.t65_reader.specs.declared.row.Item.{Item}
use Rattle.t65_values.specs.declared.expression.Operation.{Operation}
use Rattle.t65_values.specs.declared.expression.Operation.TheVariants.{Add, Subtract, Multiply, Divide, Remainder, And, Or, ExclusiveOr}
use Rattle.t65_values.specs.declared.expression.Operator.{Operator}
use Rattle.t65_reader.specs.declared.row.Target.{Target}
use Rattle.t65_reader.specs.declared.row.Target.TheVariants.{Register as InRegister, Flag as InFlag, Byte, Word, Input, Output, OutputCount, Cycles}
use Rattle.t65_reader.specs.declared.row.Register.{Register}
use Rattle.t65_reader.specs.declared.row.Register.TheVariants.{A, X, Y, S, P}
use Rattle.t65_reader.specs.declared.row.Relation.{Relation}
use Rattle.t65_reader.specs.declared.row.Row.{Row}
use Rattle.t65_reader.specs.declared.row.Relation.TheVariants.{Equal, Unequal, Below, Above, AtMost, AtLeast}
use Rattle.t65_values.specs.declared.expression.Value.{Value}
use Rattle.t65_reader.specs.declared.row.Request.{Request}
use Rattle.t65_runner.specs.Interrupts.{interrupt_of}
use Rattle.t65_runner.specs.Requests.{awaiting}
use Rattle.t65_runner.specs.declared.requests.Awaited.{Awaited}
use Rattle.t65_runner.specs.declared.requests.CallEnd.{CallEnd}
use Rattle.t65_runner.specs.RangeValues.{count_of, random_byte, values_at}
use Rattle.t65_runner.specs.declared.range_values.Values.{Values}

-- Rows with their lines, without where they lie in memory.
abbrev pub rows_seen : List (Bor (ℕ × Row)) → List (ℕ × SeenRow)
rows_seen rows = map row_seen rows

-- ---- values

-- The number of two bytes, the low one first. $0000 comes after $FFFF.
abbrev pub word_at : List ℕ → ℕ → ℕ
word_at memory address
    = slice_index memory address + 256 * slice_index memory ((address + 1) % 65536)

abbrev pub atom_number : Values → List ℕ → Atom → ℕ
atom_number values memory (atom.Number number) = number
atom_number values memory atom.First = values.first
atom_number values memory atom.Second = values.second
atom_number values memory atom.Third = values.third
atom_number values memory atom.Fourth = values.fourth
atom_number values memory (atom.Byte address) = slice_index memory address
atom_number values memory (atom.Word address) = word_at memory address
atom_number values memory (atom.Random place) = random_byte values.number place

-- Modulo 2^32; a quotient and its rest by 0 are 0.
abbrev pub operate : Operation → ℕ → ℕ → ℕ
operate Add a b = (a + b) % 4294967296
operate Subtract a b = (a + (4294967296 - b)) % 4294967296
operate Multiply a b = (a * b) % 4294967296
operate Divide a b = if b == 0 then 0 else a / b
operate Remainder a b = if b == 0 then 0 else a % b
operate And a b = bit_and a b
operate Or a b = bit_or a b
operate ExclusiveOr a b = bit_xor a b

abbrev pub joined : Values → List ℕ → ℕ → Option Operator → ℕ
joined values memory number None = number
joined values memory number (Some by)
    = operate by.operation number (atom_number values memory by.right)

-- The number that a value is, where memory has these bytes: after the call for what is wanted, and
-- at the time where it is given for what is given.
unfoldable pub number_of : Values → List ℕ → Value → ℕ
number_of values memory value = joined values memory
    (joined values memory (atom_number values memory value.first) value.second) value.third

-- ---- what is given

abbrev pub setting_of : Register → ℕ → Setting
setting_of A number = setting.A number
setting_of X number = setting.X number
setting_of Y number = setting.Y number
setting_of S number = setting.S number
setting_of P number = setting.P number

abbrev pub if_byte : ℕ → Event → Option Event
if_byte number event = if nat_lt number 256 then Some event else None

-- The event that gives a place of a byte or less a value. A byte is below 256, a flag below 2.
unfoldable pub giving_byte : Regs → Target → ℕ → Option Event
giving_byte regs (InRegister register) number
    = if_byte number (event.Set (setting_of register number))
giving_byte regs (InFlag flag) number = if nat_lt number 2
    then Some (event.Set (setting.P (status false (with_flag flag (number == 1) regs.flags)))) else None
giving_byte regs (Byte address) number = if_byte number (byte_patched address number)
giving_byte regs (Word address) number = None
giving_byte regs Input number = if_byte number (event.Input number)
giving_byte regs (Output index) number = None
giving_byte regs OutputCount number = None
giving_byte regs Cycles number = None

-- The event that gives the two bytes from an address on a value, the low byte first.
abbrev pub giving_word : ℕ → ℕ → Option Event
giving_word address number = if nat_lt number 65536
    then Some (event.Patch address (number % 256 ∷ number / 256 ∷ 0 ∷ []) 2) else None

-- The event that gives a place a value.
unfoldable pub giving : Regs → Target → ℕ → Option Event
giving regs (Word address) number = giving_word address number
giving regs place number = giving_byte regs place number

abbrev pub accepted : Session → Result State EventFault → Option Session
accepted s (Ok state) = Some (with_state s state)
accepted s (Err fault) = None

abbrev pub given_event : Session → Option Event → Option Session
given_event s None = None
given_event s (Some event) = accepted s (event_of s.current event)

-- The session after one item is given; none if the value is too large or the event is rejected.
unfoldable pub given_one : Values → Item → Session → Option Session
given_one values item s = given_event s
    (giving s.current.regs item.place (number_of values s.current.bus.memory item.value))

abbrev pub if_given : Option Session → (Session → Option Session) → Option Session
if_given None next = None
if_given (Some s) next = next s

unfoldable pub given_all : Values → List Item → Session → Option Session
given_all values [] s = Some s
given_all values (item ∷ items) s = if_given (given_one values item s) (given_all values items)

-- ---- what came

abbrev pub register_of : Register → Regs → ℕ
register_of A regs = regs.a
register_of X regs = regs.x
register_of Y regs = regs.y
register_of S regs = regs.s
register_of P regs = status false regs.flags

-- What is in a place after a call, which began in another state.
unfoldable pub came : State → State → Target → Option ℕ
came before after (InRegister register) = Some (register_of register after.regs)
came before after (InFlag flag) = Some (bit (has_flag flag after.regs.flags))
came before after (Byte address) = Some (slice_index after.bus.memory address)
came before after (Word address) = Some (word_at after.bus.memory address)
came before after Input = None
came before after (Output index) = slice_get after.bus.out (length before.bus.out + index)
came before after OutputCount = Some (length after.bus.out - length before.bus.out)
came before after Cycles = Some (after.cycles - before.cycles)

abbrev pub compares : Relation → ℕ → ℕ → Bool
compares Equal came wanted = came == wanted
compares Unequal came wanted = not (came == wanted)
compares Below came wanted = nat_lt came wanted
compares Above came wanted = nat_lt wanted came
compares AtMost came wanted = nat_le came wanted
compares AtLeast came wanted = nat_le wanted came

abbrev pub if_came : Relation → Option ℕ → ℕ → Bool
if_came relation None wanted = false
if_came relation (Some number) wanted = compares relation number wanted

unfoldable pub item_holds : Values → State → State → Item → Bool
item_holds values before after item
    = if_came item.relation (came before after item.place)
    (number_of values after.bus.memory item.value)

-- ---- rows

abbrev pub is_return : Why → Bool
is_return (Break address) = address == return_address
is_return why = false

-- How the run of a call ends that is entered as a row says, and the session after it.
abbrev pub ran : Entry → ℕ → ℕ → Session → Result (RunEnd × Session) SessionFault
ran Subroutine address steps s = call_of address steps s
ran Interrupt address steps s = interrupt_of address steps s

-- The interrupt that comes into a call which begins in a state.
abbrev pub awaited_of : Values → State → Request → Awaited
awaited_of values s request = record {
  signal = request.signal;
  start = s.cycles;
  cycle = number_of values s.bus.memory request.cycle;
}

abbrev pub ended_whole : Result (RunEnd × Session) SessionFault
    → Result (CallEnd × Session) SessionFault
ended_whole (Ok ran) = Ok (record { before = None; end = ran.0 }, ran.1)
ended_whole (Err fault) = Err fault

abbrev pub awaiting_from : Values → Request → ℕ → Result (RunEnd × Session) SessionFault
    → Result (CallEnd × Session) SessionFault
awaiting_from values request steps (Ok entered)
    = awaiting (awaited_of values entered.1.current request) steps entered.1
awaiting_from values request steps (Err fault) = Err fault

abbrev pub called_by : Values → SeenCall → Option Request → Session
    → Result (CallEnd × Session) SessionFault
called_by values call None s = ended_whole (ran call.entry call.address call.steps s)
called_by values call (Some request) s
    = awaiting_from values request call.steps (ran call.entry call.address 0 s)

-- How a call ends for values of ranges, and the session after it.
unfoldable pub called : Values → SeenCall → Session → Result (CallEnd × Session) SessionFault
called values call s = called_by values call call.request s

-- The session after a call that has returned, with the stack pointer as it was, and after which each
-- item holds.
abbrev pub passed_after : Values → List Item → Session → Result (CallEnd × Session) SessionFault
    → Option Session
passed_after values wanted s (Ok called) = if is_return called.0.end.why
    && (called.1.current.regs.s == s.current.regs.s)
    && list_all (item_holds values s.current called.1.current) wanted then Some called.1 else None
passed_after values wanted s (Err fault) = None

abbrev pub passed_given : Values → SeenCall → Session → Option Session
passed_given values call s = passed_after values call.wanted s (called values call s)

-- The session after a call that passes for values of ranges; none where it fails.
unfoldable pub passed : Values → SeenCall → Session → Option Session
passed values call s = if_given (given_all values call.given s) (passed_given values call)

-- The session after calls of rows, one after another, all of which pass.
unfoldable pub all_passed : Values → List (ℕ × SeenRow) → Session → Option Session
all_passed values [] s = Some s
all_passed values (row ∷ rows) s
    = if_given (passed values row.1.call s) (all_passed values rows)

abbrev pub run_after : Option Session → (Session → List (ℕ × SeenRow)) → List (ℕ × SeenRow)
run_after None rest = []
run_after (Some s) rest = rest s

-- The rows of some that are run: up to the first whose call fails, and that one.
unfoldable pub rows_run : Values → List (ℕ × SeenRow) → Session → List (ℕ × SeenRow)
rows_run values [] s = []
rows_run values (row ∷ rows) s
    = row ∷ run_after (passed values row.1.call s) (rows_run values rows)

-- The first of so many numbers for which there is something.
unfoldable pub first_from : ℕ → ℕ → (ℕ → Option Values) → Option Values
first_from zero number test = None
first_from (suc n) number test = option_or (test number) (first_from n (number + 1) test)

abbrev pub failed_values : List (ℕ × SeenRow) → Session → Values → Option Values
failed_values calls s values = if is_some (all_passed values calls s) then None else Some values

-- The first values of a row's ranges for which one of some calls fails, each time from a session on.
unfoldable pub first_failed : SeenRow → List (ℕ × SeenRow) → Session → Option Values
first_failed row calls s = first_from (count_of row.ranges row.choice) 0
    (λ n. failed_values calls s (values_at row.ranges row.choice n))
