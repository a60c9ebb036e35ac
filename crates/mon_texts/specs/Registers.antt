-- The line of the registers, and the lines of the flags. Source: mos65.
use Rattle.std.specs.Prelude.{ℕ, ◌-◌, Bool, true, false, List, [], ◌∷◌, ◌++◌, Option, None, Some, codes, decimal}
use Rattle.model.specs.State.{State}
use Rattle.model.specs.Text.{hex_byte}
use Rattle.model.specs.declared.registers.Flags.{Flags}
use Rattle.model.specs.declared.registers.Regs.{Regs}
use Rattle.source_map.specs.Names.{Named}
use Rattle.mon_instructions.specs.Places.{place_text}
use Rattle.mon_texts.specs.declared.wording.TheConstants.{CARRY, DECIMAL, INTERRUPT_DISABLE, NEGATIVE, OVERFLOW, ZERO}

-- A flag's letter, a capital if the flag is 1.
abbrev pub flag_letter : Bool → ℕ → ℕ
flag_letter true letter = letter - 32
flag_letter false letter = letter

-- The flags as letters: `nv-bdizc`, in which `-` and `b` are no flags.
abbrev pub flag_letters : Flags → List ℕ
flag_letters flags = flag_letter flags.n 110 ∷ flag_letter flags.v 118 ∷ 45 ∷ 98
    ∷ flag_letter flags.d 100 ∷ flag_letter flags.i 105 ∷ flag_letter flags.z 122
    ∷ flag_letter flags.c 99 ∷ []

abbrev pub named_byte : List ℕ → ℕ → List ℕ
named_byte name byte = name ++ hex_byte byte

-- The registers but for PC, and the flags: `A=01 X=00 Y=00 S=FD  nv-bdIzc`.
unfoldable pub regs_text : Regs → List ℕ
regs_text regs = named_byte (codes "A=") regs.a ++ named_byte (codes " X=") regs.x
    ++ named_byte (codes " Y=") regs.y ++ named_byte (codes " S=") regs.s
    ++ codes "  " ++ flag_letters regs.flags

-- How many cycles more there are than so many, if that is asked for.
abbrev pub since_text : ℕ → Option ℕ → List ℕ
since_text cycles None = []
since_text cycles (Some before) = codes " (+" ++ decimal (cycles - before) ++ codes ")"

-- PC and its place, and the cycles: `  PC=0206 start+6  cycle 15 (+4)`.
unfoldable pub course_text : State → List Named → Option ℕ → List ℕ
course_text state names before = codes "  PC=" ++ place_text names state.regs.pc
    ++ codes "  cycle " ++ decimal state.cycles ++ since_text state.cycles before

-- The line of the registers.
abbrev pub state_line : State → List Named → Option ℕ → List ℕ
state_line state names before
    = regs_text state.regs ++ course_text state names before ++ codes "\n"

-- ---- the flags by name

abbrev pub flag_value : Bool → List ℕ
flag_value true = codes "1  "
flag_value false = codes "0  "

abbrev pub flag_line : Bool → List ℕ → List ℕ
flag_line value words = flag_value value ++ words

-- The flags, a line for each.
unfoldable pub flags_text : Flags → List ℕ
flags_text flags = flag_line flags.n NEGATIVE.now
    ++ flag_line flags.v OVERFLOW.now
    ++ flag_line flags.d DECIMAL.now
    ++ flag_line flags.i INTERRUPT_DISABLE.now
    ++ flag_line flags.z ZERO.now
    ++ flag_line flags.c CARRY.now
