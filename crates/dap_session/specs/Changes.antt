-- What a request does to a session that changes it by events, which can be undone. Source: Debug
-- Adapter Protocol 1.65, "SetVariable Request", "Goto Request", "WriteMemory Request"; mos65.
use Rattle.std.specs.Prelude.{ℕ, suc, ◌+◌, ◌-◌, ◌≡◌, ◌==◌, ◌&&◌, nat_le, nat_lt, not, Bool, true, false, if◌then◌else◌, List, [], ◌∷◌, length, slice_index, take, Option, Some, None, Result, Ok, Err}
use Rattle.base64.specs.Engines.{standard}
use Rattle.base64.specs.GeneralPurpose.{decode_of}
use Rattle.dap_messages.specs.SeenAnswers.{value_set_body, written_body}
use Rattle.dap_messages.specs.Messages.{Said, done}
use Rattle.dap_messages.specs.declared.counting.Counting.{Counting}
use Rattle.dap_messages.specs.declared.request.Scope.{Scope}
use Rattle.dap_views.specs.Named.{meant, value_shown, variable_named}
use Rattle.dap_views.specs.declared.named.Variable.{Variable}
use Rattle.dap_views.specs.declared.named.Variable.TheVariants as variable
use Rattle.dap_session.specs.Told.{unmoved_said}
use Rattle.mon_session.specs.Course.{KeepsStops, course_of, happened}
use Rattle.mon_session.specs.declared.mon_state.MonState.{MonState}
use Rattle.model.specs.Event.{meets_port}
use Rattle.model.specs.State.{Map, State}
use Rattle.mon_line_parts.specs.Reading.{SeenFlaw}
use Rattle.mon_lines.specs.Wholes.{bit_in, bytes_in, setting_in}
use Rattle.opcode_facts.specs.declared.flag.Flag.{Flag}
use Rattle.mon_settings.specs.ByteLines.{bytes_put}
use Rattle.mon_settings.specs.FlagLines.{flag_setting}
use Rattle.model.specs.declared.event.Event.{Event}
use Rattle.model.specs.declared.event.Event.TheVariants.{Patch, Set}
use Rattle.model.specs.declared.event.Setting.{Setting}
use Rattle.model.specs.declared.event.Setting.TheVariants.{Pc}

-- ---- a variable

-- A register is set.
abbrev pub register_change : Result Setting SeenFlaw → Option Event
register_change (Ok setting) = Some (Set setting)
register_change (Err why) = None

-- A flag is set by setting P.
abbrev pub flag_change : State → Flag → Result Bool SeenFlaw → Option Event
flag_change s flag (Ok value) = Some (Set (flag_setting flag value s))
flag_change s flag (Err why) = None

-- One byte of memory is put. More are no value of a variable.
abbrev pub byte_put : ℕ → List ℕ → Option Event
byte_put address bytes = if length bytes == 1
    then Some (Patch address (slice_index bytes 0 ∷ 0 ∷ 0 ∷ []) 1) else None

abbrev pub byte_change : ℕ → Result (List ℕ) SeenFlaw → Option Event
byte_change address (Ok bytes) = byte_put address bytes
byte_change address (Err why) = None

-- The event that gives a variable the value that a text has.
abbrev pub change_of : MonState → List ℕ → Variable → Option Event
change_of mon value (variable.Register register) = register_change
    (setting_in mon.places mon.session.current.regs.pc register value)
change_of mon value (variable.Flag flag) = flag_change mon.session.current flag
    (bit_in mon.places value)
change_of mon value (variable.Byte address) = byte_change address
    (bytes_in mon.places value)

-- What is shown behind the value that the variable has may stand in the text.
abbrev pub change_to : MonState → List ℕ → Variable → Option Event
change_to mon value variable
    = change_of mon (meant mon.session.current variable value) variable

abbrev pub change_by : MonState → List ℕ → Option Variable → Option Event
change_by mon value (Some variable) = change_to mon value variable
change_by mon value None = None

-- The variable of a scope that has a name.
abbrev pub variable_asked : Option Scope → List ℕ → MonState → Option Variable
variable_asked scope name mon
    = variable_named mon.places mon.session.current.regs.pc scope name

abbrev pub change_asked : Option Scope → List ℕ → List ℕ → MonState → Option Event
change_asked scope name value mon = change_by mon value (variable_asked scope name mon)

-- An event was made, which can be undone.
abbrev pub HasMade : Event → MonState → MonState → Type 0
HasMade made old new = (course_of new ≡ happened made (course_of old)) × KeepsStops old new

-- It was the one that is asked for.
abbrev pub HasChanged : Option Event → MonState → MonState → Type 0
HasChanged asked old new = (made : Event) × (asked ≡ Some made) × HasMade made old new

-- ---- the value that is answered

-- It is the one that the variable has then, and all that is shown may have changed.
abbrev pub value_said : Counting → MonState → Variable → List Said
value_said counting mon variable
    = done (value_set_body (value_shown mon.session.current variable)) ∷ unmoved_said counting

abbrev pub TellsValue : Counting → Option Scope → List ℕ → MonState → MonState → List Said → Type 0
TellsValue counting scope name old new said = (variable : Variable)
    × (variable_asked scope name old ≡ Some variable) × (said ≡ value_said counting new variable)

-- ---- another instruction

-- The program counter is set.
abbrev pub HasGone : ℕ → MonState → MonState → Type 0
HasGone address old new
    = (course_of new ≡ happened (Set (Pc address)) (course_of old)) × KeepsStops old new

abbrev pub Goes : Option ℕ → MonState → MonState → Type 0
Goes target old new = (address : ℕ) × (target ≡ Some address) × HasGone address old new

-- ---- bytes

-- Whether memory has a byte at an address.
abbrev pub is_there : List ℕ → ℕ → ℕ → Bool
is_there memory address byte = nat_lt address 65536 && (slice_index memory address == byte)

-- How many of some bytes memory has from an address on, up to the first that differs.
unfoldable pub count_there : List ℕ → ℕ → List ℕ → ℕ
count_there memory address [] = 0
count_there memory address (byte ∷ bytes) = if is_there memory address byte
    then suc (count_there memory (address + 1) bytes) else 0

-- So many bytes were written, and all that is shown may have changed.
abbrev pub written_said : Counting → ℕ → List Said
written_said counting n = done (written_body n) ∷ unmoved_said counting

-- Those that memory has room for from an address on.
abbrev pub fitting : ℕ → List ℕ → List ℕ
fitting address bytes = take (65536 - address) bytes

-- Whether all can be written: they fit, and none stands at the port.
abbrev pub can_write : Map → ℕ → List ℕ → Bool
can_write map address bytes
    = nat_le (length bytes) (65536 - address) && not (meets_port map address bytes)

-- A part may be written if that is allowed.
abbrev pub may_write : Map → ℕ → List ℕ → Bool → Bool
may_write map address bytes true = true
may_write map address bytes false = can_write map address bytes

-- The bytes of a text are put into memory from the address on, up to the first that is rejected.
-- Those that are there then are said to be written.
abbrev pub HasWritten : Counting → ℕ → List ℕ → Bool → MonState → MonState → List Said → Type 0
HasWritten counting address text is_partial old new said = (bytes : List ℕ)
    × (decode_of standard text ≡ Ok bytes)
    × (may_write old.session.current.bus.map address bytes is_partial ≡ true)
    × (course_of new ≡ bytes_put address (fitting address bytes) (course_of old))
    × KeepsStops old new × (said ≡ written_said counting
    (count_there new.session.current.bus.memory address (fitting address bytes)))

abbrev pub Writes : Counting → Option ℕ → List ℕ → Bool → MonState → MonState → List Said → Type 0
Writes counting place text is_partial old new said = (address : ℕ) × (place ≡ Some address)
    × HasWritten counting address text is_partial old new said
