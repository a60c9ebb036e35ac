use Rattle.std.proofs.Common.{ℕ}
use Rattle.line_steps.specs.Forwards.{is_line_on}
use Rattle.line_steps.proofs.Calling.{IsCall}
use Rattle.line_steps.proofs.Counted.{NoneTo}
use Rattle.line_steps.proofs.Steps.{IsOn}
use Rattle.line_steps.proofs.forwards.run_by_line.Given as goal

abbrev pub invariant-loop-done : goal.invariant-loop-done
invariant-loop-done l = record {
  on : IsOn l.fn.session l.session l.done;
  call : IsCall l.fn.session l.done l.call;
  first : NoneTo (λ (k : ℕ). is_line_on l.lines l.from l.fn.session k) l.done;
}
