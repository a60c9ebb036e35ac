-- What a run is made for. Source: mos65; what JSR, RTS and RTI do, MCS6500 manual, chapter 8.
use Rattle.std.specs.Prelude.{ℕ, ◌==◌, ◌&&◌, ◌||◌, Bool, not, nat_lt, slice_index}
use Rattle.model.specs.Calls.{after_answer}
use Rattle.model.specs.State.{State}
use Rattle.model.specs.Step.{entry_due}
use Rattle.model.specs.Session.{Session}
use Rattle.model.specs.Breakpoints.{break_cleared}

-- The opcode at the program counter.
abbrev pub opcode_at_pc : State → ℕ
opcode_at_pc state = slice_index state.bus.memory state.regs.pc

-- The program counter is behind the JSR, and the stack pointer is what it was.
abbrev pub is_behind : ℕ → ℕ → State → State → Bool
is_behind pc stack before after = (after.regs.pc == pc) && (after.regs.s == stack)

-- The step was an RTS or an RTI, and no interrupt entry in its place, and the stack pointer is now
-- above what it was.
abbrev pub has_left : ℕ → State → State → Bool
has_left stack before after =
    (opcode_at_pc before == 0x60 || opcode_at_pc before == 0x40)
    && not (entry_due before) && nat_lt stack after.regs.s

-- ---- a breakpoint for one run

-- The session with a breakpoint cleared, if it was set.
unfoldable pub without_break : ℕ → Session → Session
without_break address s = after_answer s (break_cleared address s)
