-- Why a row fails, as text. Source: mos65.
use Rattle.std.specs.Prelude.{ℕ, ◌+◌, ◌==◌, ◌&&◌, nat_lt, Bool, if◌then◌else◌, List, [], ◌∷◌, ◌++◌, Option, None, Some, Result, Ok, Err, codes, decimal, length}
use Rattle.std.specs.List.{flat_map}
use Rattle.model.specs.FaultNames.{event_fault_name, event_fault_number}
use Rattle.model.specs.Session.{Session}
use Rattle.model.specs.State.{Map, State}
use Rattle.model.specs.declared.event.EventFault.{EventFault}
use Rattle.model.specs.declared.registers.Regs.{Regs}
use Rattle.model.specs.declared.run_end.Why.{Why}
use Rattle.model.specs.declared.run_end.Why.TheVariants.{Break, Refused}
use Rattle.model.specs.declared.session_fault.SessionFault.{SessionFault}
use Rattle.source_map.specs.Lines.{PlacesView}
use Rattle.rig.specs.Subroutine.{return_address}
use Rattle.t65_reader.specs.RowText.{SeenCall, SeenRow}
use Rattle.t65_values.specs.declared.expression.Atom.{Atom}
use Rattle.t65_values.specs.declared.expression.Atom.TheVariants as atom
use Rattle.t65_reader.specs.declared.row.Item.{Item}
use Rattle.t65_reader.specs.declared.row.Part.{Part}
use Rattle.t65_reader.specs.declared.row.Part.TheVariants.{Test, Setup, Teardown}
use Rattle.t65_reader.specs.declared.row.Target.{Target}
use Rattle.t65_reader.specs.declared.row.Range.{Range}
use Rattle.t65_reader.specs.declared.row.Ranges.{Ranges}
use Rattle.t65_reader.specs.declared.row.Request.{Request}
use Rattle.t65_reader.specs.declared.row.Signal.{Signal}
use Rattle.t65_runner.specs.Passes.{called, came, given_all, given_one, if_came, is_return, number_of, passed}
use Rattle.t65_runner.specs.RangeValues.{random_byte}
use Rattle.t65_runner.specs.Start.{fresh}
use Rattle.t65_runner.specs.declared.range_values.Values.{Values}
use Rattle.t65_runner.specs.declared.requests.CallEnd.{CallEnd}
use Rattle.t65_failures.specs.Steps.{signal_name, steps_by}
use Rattle.t65_failures.specs.declared.wording.TheConstants.{CALLED_WITH, CAME, CAME_BEFORE, CANNOT_BE_GIVEN, DECIMAL_HINT, EXPECTED, FOR, HAS_COME, HEX_HINT, IN_SETUP, IN_TEARDOWN, NOTHING_CAME, NO_RETURN, NO_SIGNAL, RETURNED_WITH, STOPPED, THEN_AT, WITH}
use Rattle.t65_failures.specs.Texts.{hex_of, named_address, named_byte, named_count, number_text, place_text, relation_text, value_text}

-- ---- which row, and for which values

abbrev pub further_text : Option Range → ℕ → List ℕ
further_text None value = []
further_text (Some range) value = codes " " ++ value_text range value

abbrev pub values_by : Option Range → Ranges → Values → List ℕ
values_by None ranges values = []
values_by (Some first) ranges values = FOR.now ++ value_text first values.first
    ++ further_text ranges.second values.second ++ further_text ranges.third values.third
    ++ further_text ranges.fourth values.fourth ++ codes "\n"

-- The values of a row's ranges, if it has any.
abbrev pub values_text : Ranges → Values → List ℕ
values_text ranges values = values_by ranges.first ranges values

-- The line of a row that is run before or after the test.
abbrev pub part_text : Part → ℕ → List ℕ
part_text Test line = []
part_text Setup line = named_count IN_SETUP.now line ++ codes "\n"
part_text Teardown line = named_count IN_TEARDOWN.now line ++ codes "\n"

-- The random byte of an item that was given, if it is one.
abbrev pub drawn_by : Values → Target → Atom → List ℕ
drawn_by values place (atom.Random at) = codes " " ++ place_text place ++ codes "="
    ++ number_text place (random_byte values.number at)
drawn_by values place other = []

abbrev pub drawn_item : Values → Item → List ℕ
drawn_item values item = drawn_by values item.place item.value.first

abbrev pub drawn_line : List ℕ → List ℕ
drawn_line drawn = if length drawn == 0 then [] else WITH.now ++ drawn ++ codes "\n"

-- The random bytes that were given, if there are any.
abbrev pub drawn_text : Values → List Item → List ℕ
drawn_text values items = drawn_line (flat_map (drawn_item values) items)

-- What is said of a row that fails for values of the test's ranges.
abbrev pub about_text : Ranges → Values → ℕ × SeenRow → List ℕ
about_text ranges values row = part_text row.1.part row.0 ++ values_text ranges values
    ++ drawn_text values row.1.call.given

-- ---- what cannot be given

-- Where a number is larger than a byte, it may have been meant as decimal.
unfoldable pub hint_of : ℕ → List ℕ
hint_of number = codes " (" ++ hex_of 2 number ++ HEX_HINT.now ++ decimal number ++ DECIMAL_HINT.now

abbrev pub hint_text : ℕ → List ℕ
hint_text number = if nat_lt 255 number then hint_of number else []

abbrev pub untaken_text : Item → ℕ → List ℕ
untaken_text item number = place_text item.place ++ CANNOT_BE_GIVEN.now
    ++ number_text item.place number ++ hint_text number ++ codes "\n"

-- ---- how the call has ended

-- Whether a call has returned with the stack pointer that it was called with.
abbrev pub is_back : ℕ → Why → Regs → Bool
is_back stack why regs = is_return why && (regs.s == stack)

abbrev pub other_stack_text : ℕ → Regs → List ℕ
other_stack_text stack regs = named_byte RETURNED_WITH.now regs.s
    ++ named_byte CALLED_WITH.now stack ++ codes "\n"

abbrev pub no_return_text : ℕ → Regs → List ℕ
no_return_text did regs = named_count NO_RETURN.now did
    ++ named_address THEN_AT.now regs.pc ++ codes "\n"

abbrev pub fault_text : EventFault → List ℕ
fault_text fault = codes ": " ++ event_fault_name fault ++ codes " "
    ++ decimal (event_fault_number fault) ++ codes "\n"

-- Where a step was rejected, and why.
abbrev pub refused_text : EventFault → Regs → List ℕ
refused_text fault regs = named_address STOPPED.now regs.pc ++ fault_text fault

-- How a call has ended, if it is not back: that it has returned with another stack pointer, that a
-- step was rejected, or that it has not returned.
abbrev pub ending_by : ℕ → ℕ → Regs → Why → List ℕ
ending_by stack did regs (Break address) = if address == return_address
    then (if regs.s == stack then [] else other_stack_text stack regs)
    else no_return_text did regs
ending_by stack did regs (Refused fault) = refused_text fault regs
ending_by stack did regs why = no_return_text did regs

-- How many steps a call has made: those before an interrupt, its entry, and those after it.
abbrev pub steps_in : Option ℕ → ℕ → ℕ
steps_in None did = did
steps_in (Some before) did = before + 1 + did

abbrev pub step_count : CallEnd → ℕ
step_count end = steps_in end.before end.end.did

-- Before which step of a call the interrupt came that was asked for, or that none came.
abbrev pub arrival_by : Signal → Option ℕ → List ℕ
arrival_by signal (Some before) = signal_name signal ++ CAME_BEFORE.now ++ decimal (before + 1)
    ++ codes "\n"
arrival_by signal None = NO_SIGNAL.now ++ signal_name signal ++ HAS_COME.now

abbrev pub request_text : Option Request → Option ℕ → List ℕ
request_text None before = []
request_text (Some request) before = arrival_by request.signal before

-- ---- what was expected, and what came

abbrev pub came_text : Target → Option ℕ → List ℕ
came_text place None = NOTHING_CAME.now
came_text place (Some number) = CAME.now ++ number_text place number

-- What was expected of an item, and what came.
abbrev pub expected_text : Item → ℕ → Option ℕ → List ℕ
expected_text item wanted found = EXPECTED.now ++ place_text item.place
    ++ relation_text item.relation ++ number_text item.place wanted
    ++ came_text item.place found ++ codes "\n"

-- The same, if it is not what was expected.
unfoldable pub unlike_text : Item → ℕ → Option ℕ → List ℕ
unlike_text item wanted found = if if_came item.relation found wanted then []
    else expected_text item wanted found

-- What a call from one state to another has left in a place, if it is not what was expected.
abbrev pub miss_text : Values → State → State → Item → List ℕ
miss_text values before after item
    = unlike_text item (number_of values after.bus.memory item.value)
    (came before after item.place)

-- The same of all items, if the call is back.
abbrev pub misses_text : Bool → Values → State → State → List Item → List ℕ
misses_text back values before after items
    = if back then flat_map (miss_text values before after) items else []

-- ---- all of it

-- How a call has ended and what it has left.
unfoldable pub end_text : Values → List Item → State → CallEnd → State → List ℕ
end_text values wanted before end after
    = ending_by before.regs.s (step_count end) after.regs end.end.why
    ++ misses_text (is_back before.regs.s end.end.why after.regs) values before after wanted

-- What is told of a call: its end, what is said of its row, where an interrupt came, and its last
-- steps.
abbrev pub called_text : PlacesView → List ℕ → Values → SeenCall → Session
    → Result (CallEnd × Session) SessionFault → List ℕ
called_text places about values call s (Ok called)
    = end_text values call.wanted s.current called.0 called.1.current ++ about
    ++ request_text call.request called.0.before
    ++ steps_by places call.request called.0.before called.0.end.did called.1
called_text places about values call s (Err fault) = []

abbrev pub if_done : List ℕ → (Session → List ℕ) → Option Session → List ℕ
if_done undone next None = undone
if_done undone next (Some s) = next s

-- The first of some items that cannot be given.
unfoldable pub refusal_text : List ℕ → Values → List Item → Session → List ℕ
refusal_text about values [] s = []
refusal_text about values (item ∷ items) s = if_done
    (untaken_text item (number_of values s.current.bus.memory item.value) ++ about)
    (refusal_text about values items) (given_one values item s)

-- What is told of a call that fails: what cannot be given, or how it has ended.
unfoldable pub told_text : PlacesView → List ℕ → Values → SeenCall → Session → List ℕ
told_text places about values call s = if_done (refusal_text about values call.given s)
    (λ t. called_text places about values call t (called values call t))
    (given_all values call.given s)

-- What is told of the first of some rows that fails, which are run one after another.
unfoldable pub told_in : PlacesView → Ranges → Values → List (ℕ × SeenRow) → Session → List ℕ
told_in places ranges values [] s = []
told_in places ranges values (row ∷ rows) s =
    if_done (told_text places (about_text ranges values row) values row.1.call s)
    (told_in places ranges values rows) (passed values row.1.call s)

-- Why a test fails for values of its ranges, on a machine at its start: what is told of the first of
-- the rows that fails.
abbrev pub detail_text : Map → List (Option ℕ) → PlacesView → Ranges → List (ℕ × SeenRow) → Values
    → List ℕ
detail_text map image places ranges rows values
    = told_in places ranges values rows (fresh map image)
