-- The words of the protocol for why the machine stands. Source: Debug Adapter Protocol 1.65, "Stopped
-- Event".
use Rattle.std.specs.Prelude.{ℕ, List, codes}
use Rattle.dap_messages.specs.declared.halt.Reason.{Reason}
use Rattle.dap_messages.specs.declared.halt.Reason.TheVariants as reason

abbrev pub word_of : Reason → List ℕ
word_of reason.Entry = codes "entry"
word_of reason.Step = codes "step"
word_of reason.Breakpoint = codes "breakpoint"
word_of reason.InstructionBreakpoint = codes "instruction breakpoint"
word_of reason.FunctionBreakpoint = codes "function breakpoint"
word_of reason.DataBreakpoint = codes "data breakpoint"
word_of reason.Exception = codes "exception"
word_of reason.Goto = codes "goto"
word_of reason.Pause = codes "pause"
word_of reason.NoStop = codes "pause"
