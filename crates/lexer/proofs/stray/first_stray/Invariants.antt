use Rattle.std.proofs.Common.{◌≡◌, ◌≤◌, ◌-◌, length, drop}
use Rattle.lexer.specs.Stray.{stray_from}
use Rattle.lexer.proofs.stray.first_stray.Given as goal

abbrev pub invariant-loop-start : goal.invariant-loop-start
invariant-loop-start l = record {
  inside : l.start ≤ length l.line;
  same : stray_from l.start 0 (drop l.start l.line) ≡ stray_from 0 0 l.line;
}

abbrev pub decreases-loop-start : goal.decreases-loop-start
decreases-loop-start l = length l.line - l.start
