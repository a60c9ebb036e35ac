-- The calls and the interrupts that have led to a state. Source: mos65.
use Rattle.std.specs.Prelude.{◌≡◌, ℕ, ◌+◌, ◌-◌, List, [], ◌++◌, drop, length, slice_get, Option, None, Some}
use Rattle.std.specs.List.{flat_map}
use Rattle.c_frames.specs.declared.walk.Frame.{Frame}
use Rattle.call_frames.specs.Tables.{AreTablesIn, TablesView, frames_at}
use Rattle.model.specs.State.{State}
use Rattle.model.specs.declared.registers.Regs.{Regs}
use Rattle.mon_texts.specs.Pushed.{entries, entry_len, pushed_at}
use Rattle.mon_texts.specs.declared.pushed.Pushed.{Pushed}
use Rattle.mon_texts.specs.declared.pushed.Pushed.TheVariants.{Call, Break, Interrupt, Byte}
use Rattle.mon_texts.specs.declared.wording.TheConstants.{CALLED_FROM, INTERRUPTED_AT, PROGRAM_AT}
use Rattle.source_map.specs.Lines.{PlacesView}
use Rattle.mon_calls.specs.Spots.{from_line, spot_line}

-- ---- what is found on the stack

abbrev pub entry_of : State → PlacesView → Pushed → List ℕ
entry_of state places (Call at) = from_line CALLED_FROM.now state places at
entry_of state places (Break at) = from_line CALLED_FROM.now state places at
entry_of state places (Interrupt at) = from_line INTERRUPTED_AT.now state places at
entry_of state places Byte = []

abbrev pub entry_line : State → PlacesView → ℕ → List ℕ
entry_line state places address
    = entry_of state places (pushed_at state.bus.memory places.lines address)

-- ---- what is found by following the code of C

abbrev pub called_line : State → PlacesView → Frame → List ℕ
called_line state places frame = from_line CALLED_FROM.now state places frame.address

abbrev pub stack_at : ℕ → Option Frame → ℕ
stack_at s None = s
stack_at s (Some frame) = frame.s

-- The stack pointer at the outermost frame: all below it on the stack is that of C.
abbrev pub stack_behind : List Frame → ℕ → ℕ
stack_behind frames s = stack_at s (slice_get frames (length frames - 1))

-- ---- all

-- Where the program is, the frames that have led there, and what else is on the stack.
abbrev pub where_text : State → PlacesView → List Frame → List ℕ
where_text state places frames = spot_line PROGRAM_AT.now places state.regs.pc
    ++ flat_map (called_line state places) (drop 1 frames)
    ++ entries 256 (entry_line state places) (entry_len state.bus.memory places.lines)
    (257 + stack_behind frames state.regs.s)

abbrev pub frames_in : Option TablesView → Regs → List Frame
frames_in None regs = []
frames_in (Some tables) regs = frames_at tables regs

-- A text grows by the calls at a state.
abbrev pub ShowsCalls : State → PlacesView → List ℕ → List ℕ → Type 0
ShowsCalls state places old new = (found : Option TablesView)
    × AreTablesIn state.bus.memory places found
    × (new ≡ old ++ where_text state places (frames_in found state.regs))
