use Rattle.std.proofs.Common.{◌≡◌, ◌==◌, drop}
use Rattle.std.specs.List.{find}
use Rattle.line_steps.specs.declared.lines.LineStart.{LineStart}
use Rattle.line_steps.proofs.lines.start_at.Given as goal

abbrev pub invariant-loop-start : goal.invariant-loop-start
invariant-loop-start l = find (λ (start : LineStart). start.address == l.address) l.lines
    ≡ find (λ (start : LineStart). start.address == l.address) (drop l.start-index l.lines)
