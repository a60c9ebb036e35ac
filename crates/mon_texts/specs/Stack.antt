-- The stack, entry by entry. Source: mos65.
use Rattle.std.specs.Prelude.{ℕ, ◌+◌, ◌%◌, List, ◌++◌, codes, slice_index}
use Rattle.model.specs.Effect.{flags_of_byte}
use Rattle.model.specs.State.{State}
use Rattle.model.specs.Text.{hex_address, hex_byte}
use Rattle.source_map.specs.Lines.{PlacesView}
use Rattle.source_map.specs.Names.{Named}
use Rattle.mon_instructions.specs.Instructions.{byte_column, front_columns, instruction_text}
use Rattle.mon_texts.specs.Memory.{stack_line}
use Rattle.mon_instructions.specs.Places.{place_text}
use Rattle.mon_texts.specs.Pushed.{entries, entry_len, pushed_at}
use Rattle.mon_texts.specs.Registers.{flag_letters}
use Rattle.mon_texts.specs.declared.pushed.Pushed.{Pushed}
use Rattle.mon_texts.specs.declared.pushed.Pushed.TheVariants.{Call, Break, Interrupt, Byte}
use Rattle.mon_texts.specs.declared.wording.TheConstants.{BREAK_FROM, INTERRUPTED_AT, OF, RETURN_TO, STATUS}

-- Where a JSR returns to, and what it is: `return to 0209 main+9 of JSR clear`.
unfoldable pub return_text : State → List Named → ℕ → List ℕ
return_text state names jsr = RETURN_TO.now ++ place_text names ((jsr + 3) % 65536) ++ OF.now
    ++ instruction_text state names jsr ++ codes "\n"

-- The row of a return address: `01FA  0D 03  return to 030E outer+3 of JSR inner`.
unfoldable pub pair_columns : ℕ → ℕ → ℕ → List ℕ
pair_columns address low high = hex_address address ++ codes "  " ++ byte_column low
    ++ byte_column high ++ codes " "

abbrev pub return_row : State → List Named → ℕ → ℕ → List ℕ
return_row state names address jsr = pair_columns address
    (slice_index state.bus.memory address) (slice_index state.bus.memory (address + 1))
    ++ return_text state names jsr

-- Words, a place, and the flags in a byte: `interrupted at 0302 loop, P nv-bdIzc`.
unfoldable pub status_text : List ℕ → List Named → ℕ → ℕ → List ℕ
status_text words names at status = words ++ place_text names at ++ STATUS.now
    ++ flag_letters (flags_of_byte status) ++ codes "\n"

-- The row of P and an address.
abbrev pub status_row : List ℕ → State → List Named → ℕ → ℕ → List ℕ
status_row words state names address at = front_columns 3 state address
    ++ status_text words names at (slice_index state.bus.memory address)

-- The row of any other byte: `01FC  41`.
unfoldable pub byte_row : ℕ → ℕ → List ℕ
byte_row address byte = hex_address address ++ codes "  " ++ hex_byte byte ++ codes "\n"

abbrev pub entry_of : State → List Named → ℕ → Pushed → List ℕ
entry_of state names address (Call jsr) = return_row state names address jsr
entry_of state names address (Break at) = status_row BREAK_FROM.now state names address at
entry_of state names address (Interrupt at) = status_row INTERRUPTED_AT.now state names address at
entry_of state names address Byte = byte_row address (slice_index state.bus.memory address)

abbrev pub entry_row : State → PlacesView → ℕ → List ℕ
entry_row state places address
    = entry_of state places.names address (pushed_at state.bus.memory places.lines address)

-- The bytes on the stack, and a row for each entry, the top one first.
abbrev pub stack_text : State → PlacesView → List ℕ
stack_text state places = stack_line state.bus.memory state.regs.s
    ++ entries 256 (entry_row state places) (entry_len state.bus.memory places.lines)
    (257 + state.regs.s)
