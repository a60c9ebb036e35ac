-- Where a program has nothing to do until something comes from outside. Source: mos65; BRK and its
-- vector, MCS6500 manual, chapter 9.
use Rattle.std.specs.Prelude.{◌==◌, ◌&&◌, Bool, not, if◌then◌else◌, Option, Some, None, slice_index}
use Rattle.model.specs.State.{State, input_waits}
use Rattle.cpu_step.specs.PlainSteps.{stays}
use Rattle.accesses.specs.Looking.{looks}
use Rattle.mon_runs.specs.Goals.{opcode_at_pc}
use Rattle.mon_runs.specs.declared.ended.EndWhy.{EndWhy}
use Rattle.mon_runs.specs.declared.ended.EndWhy.TheVariants.{Stuck, NoHandler, Waits}

-- A BRK comes next, and nothing stands at FFFE: both bytes of its vector are 0.
abbrev pub has_no_handler : State → Bool
has_no_handler state = (opcode_at_pc state == 0)
    && (slice_index state.bus.memory 0xFFFE == 0) && (slice_index state.bus.memory 0xFFFF == 0)

-- The program waits for input: the instruction that comes next looks for some, and none waits.
unfoldable pub waits : State → Bool
waits state = not (input_waits state.bus) && looks state

-- Why a program rests after a step from one state to another, if it does: first of all, the step was
-- a jump or a branch to itself.
abbrev pub rest_between : State → State → Option EndWhy
rest_between before after =
    if stays before.regs after.regs then Some Stuck
    else if has_no_handler after then Some NoHandler
    else if waits after then Some Waits
    else None
