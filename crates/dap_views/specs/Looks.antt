-- What is shown of a register, a flag, the cycles or a place: a place is an address as `mon` reads
-- one. Source: mos65.
use Rattle.std.specs.Prelude.{ℕ, Bool, false, if◌then◌else◌, List, codes, decimal, Option, Some, None, option_map, Result, Ok, Err}
use Rattle.std.specs.Str.{bytes_eq, str_eq_ignore_ascii_case}
use Rattle.dap_messages.specs.SeenAnswers.{SeenAnswer, look_body}
use Rattle.dap_views.specs.Named.{flag_or_register, value_byte, value_shown}
use Rattle.dap_views.specs.Variables.{byte_text}
use Rattle.dap_views.specs.declared.looks.Look.{Look}
use Rattle.dap_views.specs.declared.looks.Look.TheVariants as look
use Rattle.dap_views.specs.declared.named.Variable.{Variable}
use Rattle.dap_views.specs.declared.named.Variable.TheVariants as variable
use Rattle.model.specs.State.{State}
use Rattle.mon_line_parts.specs.Reading.{SeenFlaw}
use Rattle.mon_lines.specs.Parts.{flag_of, register_of}
use Rattle.mon_lines.specs.Wholes.{place_in}
use Rattle.mon_lines.specs.declared.command.Register.{Register}
use Rattle.mon_lines.specs.declared.command.Register.TheVariants as register
use Rattle.source_map.specs.Lines.{PlacesView}
use Rattle.source_map.specs.Names.{address_of}

-- ---- what a text names

-- A register's name in capitals, as the variables of its scope have it.
abbrev pub capital_register : List ℕ → Option Register
capital_register text = if bytes_eq text (codes "PC") then Some register.Pc
    else if bytes_eq text (codes "A") then Some register.A
    else if bytes_eq text (codes "X") then Some register.X
    else if bytes_eq text (codes "Y") then Some register.Y
    else if bytes_eq text (codes "S") then Some register.S
    else if bytes_eq text (codes "P") then Some register.P else None

-- A text names the address that it is.
abbrev pub place_read : Result ℕ SeenFlaw → Option ℕ
place_read (Ok address) = Some address
place_read (Err why) = None

abbrev pub place_named : PlacesView → ℕ → List ℕ → Option ℕ
place_named places pc text = place_read (place_in places pc text)

-- The name of the program counter, in capitals or not.
abbrev pub is_counter : List ℕ → Bool
is_counter text = str_eq_ignore_ascii_case text (codes "PC")

-- Where something is looked at, that name is a place only if the program has it.
abbrev pub address_looked : PlacesView → ℕ → List ℕ → Option ℕ
address_looked places pc text = if is_counter text then address_of places.names text
    else place_named places pc text

-- A register or a flag, in capitals or not.
abbrev pub own_variable : List ℕ → Option Variable
own_variable text = if is_counter text then Some (variable.Register register.Pc)
    else flag_or_register (flag_of text) (register_of text)

-- What is named where no place is.
abbrev pub named_otherwise : Option Variable → List ℕ → Option Look
named_otherwise (Some variable) text = Some (look.Variable variable)
named_otherwise None text = if bytes_eq text (codes "cycles") then Some look.Cycles else None

abbrev pub byte_or_other : Option ℕ → List ℕ → Option Look
byte_or_other (Some address) text = Some (look.Variable (variable.Byte address))
byte_or_other None text = named_otherwise (own_variable text) text

abbrev pub register_or : Option Register → Option Look → Option Look
register_or (Some register) other = Some (look.Variable (variable.Register register))
register_or None other = other

-- A register in capitals counts before a place, a place before all else.
abbrev pub look_named : PlacesView → ℕ → List ℕ → Option Look
look_named places pc text
    = register_or (capital_register text) (byte_or_other (address_looked places pc text) text)

-- ---- what is shown of it

-- The address of a byte of memory.
abbrev pub look_address : Look → Option ℕ
look_address (look.Variable (variable.Byte address)) = Some address
look_address (look.Variable (variable.Register register)) = None
look_address (look.Variable (variable.Flag flag)) = None
look_address look.Cycles = None

abbrev pub look_words : State → Look → List ℕ
look_words s (look.Variable variable) = value_shown s variable
look_words s look.Cycles = decimal s.cycles

abbrev pub look_shown : State → Look → SeenAnswer
look_shown s look = look_body (look_address look) (look_words s look)

abbrev pub look_at : State → PlacesView → List ℕ → Option SeenAnswer
look_at s places text = option_map (look_shown s) (look_named places s.regs.pc text)

-- ---- the value alone

-- A byte is shown in hexadecimal alone.
abbrev pub byte_or_shown : Option ℕ → List ℕ → List ℕ
byte_or_shown (Some byte) shown = byte_text byte
byte_or_shown None shown = shown

abbrev pub look_text : State → Look → List ℕ
look_text s (look.Variable variable)
    = byte_or_shown (value_byte s variable) (value_shown s variable)
look_text s look.Cycles = decimal s.cycles

abbrev pub looked_text : State → PlacesView → List ℕ → Option (List ℕ)
looked_text s places text = option_map (look_text s) (look_named places s.regs.pc text)
