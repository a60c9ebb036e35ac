-- Back by lines, over the states that a session holds. Source: mos65; the cycles of RTS and RTI,
-- MCS6500 manual, appendix B.
use Rattle.std.specs.Prelude.{ℕ, ◌+◌, ◌-◌, ◌==◌, ◌&&◌, ◌||◌, zero, suc, max, nat_lt, not, Bool, if◌then◌else◌, is_some, List, get_or, length}
use Rattle.model.specs.State.{State}
use Rattle.model.specs.Session.{Session}
use Rattle.model.specs.Back.{states, without_last}
use Rattle.line_steps.specs.Calls.{opcode_of}
use Rattle.line_steps.specs.Lines.{begun}
use Rattle.line_steps.specs.Numbers.{any_below, first_or_last}
use Rattle.line_steps.specs.declared.lines.LineStart.{LineStart}

-- The state that a session held k events before its current one, and its stack pointer.
abbrev pub state_back : Session → ℕ → State
state_back s k = get_or (states s) (length s.earlier - k) s.current

abbrev pub stack_back : Session → ℕ → ℕ
stack_back s k = (state_back s k).regs.s

-- Whether an event that led from one state to another is the step of an RTS or an RTI, which takes 6
-- cycles. The entry of an interrupt in its place takes 7, as a reset does, and all other events take
-- none.
abbrev pub is_return : State → State → Bool
is_return before after = (opcode_of before == 0x60 || opcode_of before == 0x40)
    && (after.cycles == before.cycles + 6)

-- Whether the state k events back is within a call that has returned since: a later return has left
-- the stack pointer above that state's.
unfoldable pub is_left : Session → ℕ → Bool
is_left s k = any_below k (λ j. is_return (state_back s (suc j)) (state_back s j)
    && nat_lt (stack_back s k) (stack_back s j))

-- Whether a line begins at the state k events back, and the state is within no such call.
abbrev pub is_line_back : List LineStart → Session → ℕ → Bool
is_line_back lines s k = is_some (begun lines (state_back s k)) && not (is_left s k)

-- How many events lead back to the last such state: all that are held, if there is none.
abbrev pub events_to_line : List LineStart → Session → ℕ
events_to_line lines s = first_or_last (length s.earlier) (is_line_back lines s)

-- The session with so many events undone, one by one.
unfoldable pub gone_back : ℕ → Session → Session
gone_back zero s = s
gone_back (suc k) s = without_last 1 (gone_back k s)

-- ---- event by event

-- The highest stack pointer that returns have left, with one event more: 0 if there is no return.
abbrev pub highest_with : Bool → ℕ → ℕ → ℕ
highest_with is_return stack highest = if is_return then max highest stack else highest
