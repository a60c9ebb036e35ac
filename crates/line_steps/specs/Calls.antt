-- Calls of a run that have not returned. Source: mos65; what JSR, RTS, BRK, RTI and interrupts do with
-- the stack, which grows down, MCS6500 manual, chapters 8 and 9.
use Rattle.std.specs.Prelude.{ℕ, suc, ◌==◌, ◌&&◌, ◌||◌, not, nat_lt, nat_le, Bool, if◌then◌else◌, slice_index, Option, Some, None}
use Rattle.model.specs.State.{State}
use Rattle.model.specs.Step.{entry_due}
use Rattle.model.specs.Session.{Session}
use Rattle.model.specs.Run.{after_steps}
use Rattle.line_steps.specs.Numbers.{any_below}

-- The opcode at the program counter.
abbrev pub opcode_of : State → ℕ
opcode_of state = slice_index state.bus.memory state.regs.pc

-- Whether the step from a state is a call: a JSR, a BRK, or the entry of an interrupt.
abbrev pub is_call : State → Bool
is_call state = entry_due state || opcode_of state == 0x20 || opcode_of state == 0

-- The state after k steps of a session, and its stack pointer.
abbrev pub state_on : Session → ℕ → State
state_on s k = (after_steps k s).current

abbrev pub stack_on : Session → ℕ → ℕ
stack_on s k = (state_on s k).regs.s

-- Whether a call that was made after j steps has returned after k: since then the stack pointer was
-- where it was before the call, or above.
unfoldable pub has_returned : Session → ℕ → ℕ → Bool
has_returned s j k = any_below (suc k) (λ i. nat_lt j i && nat_le (stack_on s j) (stack_on s i))

-- Whether the state after k steps is within a call: one was made in these steps, and has not
-- returned.
unfoldable pub is_within_call : Session → ℕ → Bool
is_within_call s k = any_below k (λ j. is_call (state_on s j) && not (has_returned s j k))

-- ---- step by step

-- The call that a run is within, by the stack pointer before it: as its next step begins, and once
-- that step is made.
abbrev pub call_begun : Option ℕ → State → Option ℕ
call_begun None state = if is_call state then Some state.regs.s else None
call_begun (Some stack) state = Some stack

abbrev pub call_open : Option ℕ → State → Option ℕ
call_open None state = None
call_open (Some stack) state = if nat_lt state.regs.s stack then Some stack else None
