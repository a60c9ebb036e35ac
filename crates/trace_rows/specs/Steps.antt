-- The row of a step. Source: mos65.
use Rattle.std.specs.Prelude.{ℕ, ◌+◌, ◌-◌, Bool, true, false, if◌then◌else◌, List, [], ◌∷◌, ◌++◌, length, codes, take, slice_get, slice_index}
use Rattle.std.specs.Option.{unwrap_or}
use Rattle.std.specs.List.{flat_map}
use Rattle.model.specs.State.{State, Bus, is_port}
use Rattle.model.specs.Text.{hex_byte, hex_address}
use Rattle.model.specs.InstructionText.{TextRow, row_of}
use Rattle.model.specs.declared.instruction.Profile.{Profile}
use Rattle.model.specs.declared.registers.Flags.{Flags}
use Rattle.model.specs.declared.registers.Regs.{Regs}
use Rattle.accesses.specs.declared.moment.Moment.{Moment}
use Rattle.trace_rows.specs.declared.sites.Sites.{Sites}
use Rattle.trace_rows.specs.declared.words.SiteColumns.{SiteColumns}
use Rattle.trace_rows.specs.declared.steps.Step.{Step}
use Rattle.formatting.specs.Padding.{padded}
use Rattle.trace_rows.specs.Words.{count_text, with_site}

-- ---- the instruction

-- A byte with a blank behind it.
abbrev pub byte_column : ℕ → List ℕ
byte_column byte = hex_byte byte ++ 32 ∷ []

-- The bytes and the text of a row of memory.
abbrev pub bytes_and_text : List ℕ → TextRow → List ℕ
bytes_and_text bytes row = padded 10 (flat_map byte_column (take row.len bytes)) ++ row.text

abbrev pub bytes_of : Moment → List ℕ
bytes_of moment = moment.first ∷ moment.second ∷ moment.third ∷ []

-- The bytes and the text of the instruction of a moment.
unfoldable pub instruction_columns : Profile → Moment → List ℕ
instruction_columns profile moment
    = bytes_and_text (bytes_of moment) (row_of profile (bytes_of moment) moment.regs.pc)

-- What stands in the row of an interrupt entry.
unfoldable pub with_entry : List ℕ → List ℕ
with_entry row = padded 26 row ++ codes "(interrupt)"

-- A row with what a step executes: an entry, or the instruction.
abbrev pub with_executed : Bool → Profile → Moment → List ℕ → List ℕ
with_executed true profile moment row = with_entry row
with_executed false profile moment row = row ++ instruction_columns profile moment

-- ---- registers and flags

-- A flag's letter, a capital if the flag is 1.
abbrev pub flag_letter : Bool → ℕ → ℕ
flag_letter true letter = letter - 32
flag_letter false letter = letter

-- A blank and the flags as letters: `nv-bdizc`, in which `-` and `b` are no flags.
abbrev pub flag_letters : Flags → List ℕ
flag_letters flags = 32 ∷ flag_letter flags.n 110 ∷ flag_letter flags.v 118 ∷ 45 ∷ 98
    ∷ flag_letter flags.d 100 ∷ flag_letter flags.i 105 ∷ flag_letter flags.z 122
    ∷ flag_letter flags.c 99 ∷ []

abbrev pub named_byte : List ℕ → ℕ → List ℕ
named_byte name byte = name ++ hex_byte byte

-- The registers and flags: `A=01 X=00 Y=00 S=FD nv-bdIzc`.
unfoldable pub regs_text : Regs → List ℕ
regs_text regs = named_byte (codes "A=") regs.a ++ named_byte (codes " X=") regs.x
    ++ named_byte (codes " Y=") regs.y ++ named_byte (codes " S=") regs.s
    ++ flag_letters regs.flags

-- ---- what was stored

-- What a store has left at an address: the last byte of output at the port, otherwise memory's.
unfoldable pub byte_left : Bus → ℕ → ℕ
byte_left bus address = if is_port bus.map address then unwrap_or (slice_get bus.out (length bus.out - 1)) 0
    else slice_index bus.memory address

abbrev pub store_text : Bus → ℕ → List ℕ
store_text bus address = hex_address address ++ codes "=" ++ hex_byte (byte_left bus address)

-- A row with each store, the first at a column and each further one 8 columns behind.
unfoldable pub with_stores : Bus → ℕ → List ℕ → List ℕ → List ℕ
with_stores bus column [] row = row
with_stores bus column (address ∷ addresses) row = with_stores bus (column + 8) addresses
    (padded column row ++ store_text bus address)

-- ---- the row

-- A number, and the address of a moment.
unfoldable pub row_front : ℕ → Moment → List ℕ
row_front number moment
    = count_text 8 number ++ codes "  " ++ hex_address moment.regs.pc ++ codes "  "

-- The cycles, the address, what was executed, and the registers.
unfoldable pub step_front : State → Step → List ℕ
step_front state step = padded 40 (with_executed step.is_entry state.bus.map.profile step.moment
    (row_front step.moment.cycles step.moment) ++ codes "  ") ++ regs_text state.regs

-- A row with the label and the line of an address, and its end.
abbrev pub ended_row : SiteColumns → Sites → ℕ → List ℕ → List ℕ
ended_row columns sites address row = with_site columns sites address row ++ codes "\n"

-- The row of a step, by the state after it.
unfoldable pub step_row : State → Sites → Step → Bool → List ℕ
step_row state sites step true = ended_row (record { label = 87; line = 97 }) sites
    step.moment.regs.pc (with_stores state.bus 70 step.stores.items (step_front state step))
step_row state sites step false = ended_row (record { label = 70; line = 84 }) sites
    step.moment.regs.pc (step_front state step)
