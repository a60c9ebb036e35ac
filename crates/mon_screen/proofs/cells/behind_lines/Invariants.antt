use Rattle.std.proofs.Common.{◌≡◌, ◌-◌}
use Rattle.mon_screen.specs.Cells.{behind_lines}
use Rattle.mon_screen.proofs.cells.behind_lines.Given as goal

abbrev pub invariant-loop : goal.invariant-loop
invariant-loop l = behind_lines (l.count - l.counter) l.rest ≡ behind_lines l.count l.text
