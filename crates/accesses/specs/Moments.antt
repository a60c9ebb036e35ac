-- What is about to happen in a state, and whether an interrupt comes in its place. Source: mos65.
use Rattle.std.specs.Prelude.{ℕ, ◌+◌, ◌%◌, Bool, true, false, not, ◌&&◌, ◌||◌, nat_lt, List, [], ◌∷◌, length, slice_index}
use Rattle.model.specs.State.{State}
use Rattle.cpu_step.specs.Access.{row_here}
use Rattle.cpu_step.specs.Stored.{below, stores_here}
pub use Rattle.cpu_step.specs.PlainSteps.{is_brk, is_break}
use Rattle.accesses.specs.declared.moment.Moment.{Moment}

abbrev pub moment_of : State → Moment
moment_of state = record {
  regs = state.regs;
  cycles = state.cycles;
  irq = state.irq;
  nmi = state.nmi;
  control = state.bus.control;
  taken = state.bus.taken;
  row = row_here state;
  first = slice_index state.bus.memory state.regs.pc;
  second = slice_index state.bus.memory ((state.regs.pc + 1) % 65536);
  third = slice_index state.bus.memory ((state.regs.pc + 2) % 65536);
}

-- Whether a step from the moment is an interrupt entry, where so many bytes of input were handed in.
abbrev pub enters_with : ℕ → Moment → Bool
enters_with given moment = moment.nmi
    || ((moment.irq || (moment.control && nat_lt moment.taken given)) && not moment.regs.flags.i)

-- A state with the input that was handed in up to another.
abbrev pub with_input_of : State → State → State
with_input_of after before
    = record before { bus = record before.bus { given = after.bus.given } }

-- Whether the step from the moment to a state was an interrupt entry. Input may have been handed in
-- before the step. A step hands nothing in, so the state after it has the input that it was made
-- with.
abbrev pub entered : Moment → State → Bool
entered moment after = enters_with (length after.bus.given) moment

-- Where an entry pushes the return address and the status, by the stack pointer before it.
abbrev pub entry_stores : ℕ → List ℕ
entry_stores s = below s 0 ∷ below s 1 ∷ below s 2 ∷ []

-- Where a step has stored: an entry, or else its instruction.
abbrev pub stored_by : Bool → ℕ → List ℕ → List ℕ
stored_by true s stores = entry_stores s
stored_by false s stores = stores

-- Where the step between two states has stored.
abbrev pub step_stores : State → State → List ℕ
step_stores before after
    = stored_by (entered (moment_of before) after) before.regs.s (stores_here before)
