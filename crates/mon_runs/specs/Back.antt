-- Back over a subroutine. Source: mos65; what JSR and RTS do, and their cycles, MCS6500 manual,
-- chapter 8 and appendix B.
use Rattle.std.specs.Prelude.{ℕ, ◌+◌, ◌-◌, ◌==◌, ◌&&◌, zero, suc, Bool, if◌then◌else◌, List, length}
use Rattle.model.specs.State.{State}
use Rattle.model.specs.Session.{Session}
use Rattle.model.specs.Back.{without_last}
use Rattle.mon_runs.specs.Goals.{opcode_at_pc}
use Rattle.mon_runs.specs.Recall.{one_more}

-- Whether an event that leads from one state to another was the step of an RTS, which takes 6
-- cycles. The entry of an interrupt in its place takes 7, as a reset does, and all other events take
-- none.
abbrev pub was_return : State → State → Bool
was_return before after
    = opcode_at_pc before == 0x60 && (after.cycles == before.cycles + 6)

-- Whether a state is at a JSR with this stack pointer.
abbrev pub is_call : ℕ → State → Bool
is_call stack state = state.regs.s == stack && opcode_at_pc state == 0x20

-- Back by one event at a time, up to n, to the state at such a JSR.
unfoldable pub gone_over : ℕ → ℕ → Session → ℕ × Session
gone_over stack zero s = (0, s)
gone_over stack (suc n) s =
    let t = without_last 1 s in
    if is_call stack t.current then (1, t) else one_more (gone_over stack n t)

-- One event back, and on to the JSR of the subroutine if that event was its RTS, which left the stack
-- pointer where the JSR found it.
unfoldable pub back_over : Session → ℕ × Session
back_over s =
    let t = without_last 1 s in
    let held = length s.earlier in
    if held == 0 then (0, s)
    else if was_return t.current s.current
    then one_more (gone_over s.current.regs.s (held - 1) t) else (1, t)
