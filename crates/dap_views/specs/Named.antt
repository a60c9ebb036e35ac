-- The variable of a scope that a client names, and its value. Source: mos65.
use Rattle.std.specs.Prelude.{ℕ, ◌-◌, nat_eq, Bool, true, false, if◌then◌else◌, length, take, List, slice_index, Option, Some, None, Result, Ok, Err}
use Rattle.std.specs.List.{ends_with}
use Rattle.dap_messages.specs.declared.request.Scope.{Scope}
use Rattle.dap_messages.specs.declared.request.Scope.TheVariants as scope
use Rattle.dap_views.specs.Variables.{behind_text, bit_text, register_text, value_text}
use Rattle.dap_views.specs.declared.named.Variable.{Variable}
use Rattle.dap_views.specs.declared.named.Variable.TheVariants as variable
use Rattle.model.specs.Effect.{status}
use Rattle.model.specs.State.{State}
use Rattle.model.specs.declared.registers.Regs.{Regs}
use Rattle.mon_line_parts.specs.Reading.{SeenFlaw}
use Rattle.mon_lines.specs.Parts.{flag_of, register_of}
use Rattle.mon_lines.specs.Wholes.{place_in}
use Rattle.mon_lines.specs.declared.command.Register.{Register}
use Rattle.mon_lines.specs.declared.command.Register.TheVariants as register
use Rattle.opcode_facts.specs.Flag.{has_flag}
use Rattle.opcode_facts.specs.declared.flag.Flag.{Flag}
use Rattle.source_map.specs.Lines.{PlacesView}

-- The scopes of the registers and of the flags.
abbrev pub is_of_processor : Scope → Bool
is_of_processor scope.Registers = true
is_of_processor scope.Flags = true
is_of_processor other = false

abbrev pub is_of_locals : Scope → Bool
is_of_locals (scope.Locals frame) = true
is_of_locals other = false

-- A flag or a register has its own name.
abbrev pub flag_or_register : Option Flag → Option Register → Option Variable
flag_or_register (Some flag) register = Some (variable.Flag flag)
flag_or_register None (Some register) = Some (variable.Register register)
flag_or_register None None = None

-- A byte has the name of its place. No local is set.
abbrev pub at_place : Result ℕ SeenFlaw → Option Variable
at_place (Ok address) = Some (variable.Byte address)
at_place (Err why) = None

abbrev pub variable_in : PlacesView → ℕ → Scope → List ℕ → Option Variable
variable_in places pc scope name = if is_of_processor scope
    then flag_or_register (flag_of name) (register_of name)
    else if is_of_locals scope then None else at_place (place_in places pc name)

-- No scope has no variable.
abbrev pub variable_named : PlacesView → ℕ → Option Scope → List ℕ → Option Variable
variable_named places pc (Some scope) name = variable_in places pc scope name
variable_named places pc None name = None

-- Its value, as it is shown among the variables of its scope.
abbrev pub value_shown : State → Variable → List ℕ
value_shown s (variable.Register register) = register_text s.regs register
value_shown s (variable.Flag flag) = bit_text (has_flag flag s.regs.flags)
value_shown s (variable.Byte address) = value_text (slice_index s.bus.memory address)

-- ---- the text that is given as another value

-- An editor sends what it shows once it was edited, so what is shown behind the value in hexadecimal
-- may stand there too.
abbrev pub without_behind : List ℕ → List ℕ → List ℕ
without_behind behind text = if ends_with nat_eq text behind
    then take (length text - length behind) text else text

-- The byte of a variable, if it has one.
abbrev pub register_value : Regs → Register → Option ℕ
register_value regs register.Pc = None
register_value regs register.A = Some regs.a
register_value regs register.X = Some regs.x
register_value regs register.Y = Some regs.y
register_value regs register.S = Some regs.s
register_value regs register.P = Some (status false regs.flags)

abbrev pub value_byte : State → Variable → Option ℕ
value_byte s (variable.Register register) = register_value s.regs register
value_byte s (variable.Flag flag) = None
value_byte s (variable.Byte address) = Some (slice_index s.bus.memory address)

abbrev pub meant_by : Option ℕ → List ℕ → List ℕ
meant_by (Some byte) text = without_behind (behind_text byte) text
meant_by None text = text

-- The text that is meant where a variable is to have another value.
abbrev pub meant : State → Variable → List ℕ → List ℕ
meant s variable text = meant_by (value_byte s variable) text
