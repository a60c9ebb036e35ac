-- Variables of a scope. Source: Debug Adapter Protocol 1.65, "Variable"; what is shown, mos65.
use Rattle.std.specs.Prelude.{ℕ, ◌&&◌, nat_le, Bool, false, if◌then◌else◌, List, [], ◌∷◌, ◌++◌, codes, decimal}
use Rattle.std.specs.Str.Lossy.{utf8_lossy}
use Rattle.dap_messages.specs.Texts.{address_text}
use Rattle.dap_messages.specs.SeenAnswers.{SeenItem, plain_variable, variable, variable_at}
use Rattle.model.specs.Effect.{status}
use Rattle.model.specs.declared.registers.Flags.{Flags}
use Rattle.model.specs.declared.registers.Regs.{Regs}
use Rattle.model.specs.Text.{hex_byte}
use Rattle.mon_lines.specs.declared.command.Register.{Register}
use Rattle.mon_lines.specs.declared.command.Register.TheVariants as register

-- A byte is ASCII, so that it is text as it stands.
abbrev pub byte_text : ℕ → List ℕ
byte_text byte = utf8_lossy (codes "$" ++ hex_byte byte)

-- The character of a byte, between quotes and behind a blank, if it can be seen.
abbrev pub character_text : ℕ → List ℕ
character_text byte = if nat_le 32 byte && nat_le byte 126
    then 32 ∷ 39 ∷ byte ∷ 39 ∷ [] else []

-- What stands behind the hexadecimal value of a variable: the decimal one and the character.
abbrev pub behind_text : ℕ → List ℕ
behind_text byte = (codes " " ++ decimal byte) ++ character_text byte

abbrev pub value_text : ℕ → List ℕ
value_text byte = utf8_lossy
    ((((codes "$" ++ hex_byte byte) ++ codes " ") ++ decimal byte) ++ character_text byte)

-- The value of a register. That of the status register has B clear.
abbrev pub register_text : Regs → Register → List ℕ
register_text regs register.Pc = address_text regs.pc
register_text regs register.A = value_text regs.a
register_text regs register.X = value_text regs.x
register_text regs register.Y = value_text regs.y
register_text regs register.S = value_text regs.s
register_text regs register.P = value_text (status false regs.flags)

-- The value of a flag.
abbrev pub bit_text : Bool → List ℕ
bit_text is_set = if is_set then codes "1" else codes "0"

-- A byte, under a name.
abbrev pub byte_variable : List ℕ → ℕ → ℕ → SeenItem
byte_variable name address byte = variable_at name address (value_text byte)

abbrev pub register_variable : List ℕ → Regs → Register → SeenItem
register_variable name regs register = variable name (register_text regs register)

abbrev pub flag_variable : List ℕ → Bool → SeenItem
flag_variable name is_set = plain_variable name (bit_text is_set)

abbrev pub number_variable : List ℕ → ℕ → SeenItem
number_variable name number = plain_variable name (decimal number)

abbrev pub registers_shown : Regs → List SeenItem
registers_shown regs = register_variable (codes "PC") regs register.Pc
    ∷ register_variable (codes "A") regs register.A
    ∷ register_variable (codes "X") regs register.X
    ∷ register_variable (codes "Y") regs register.Y
    ∷ register_variable (codes "S") regs register.S
    ∷ register_variable (codes "P") regs register.P ∷ []

abbrev pub flags_shown : Flags → List SeenItem
flags_shown flags = flag_variable (codes "N") flags.n ∷ flag_variable (codes "V") flags.v
    ∷ flag_variable (codes "D") flags.d ∷ flag_variable (codes "I") flags.i
    ∷ flag_variable (codes "Z") flags.z ∷ flag_variable (codes "C") flags.c ∷ []
