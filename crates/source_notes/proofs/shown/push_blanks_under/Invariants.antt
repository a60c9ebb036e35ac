use Rattle.std.proofs.Common.{◌≡◌, ◌-◌, ◌++◌, drop}
use Rattle.source_notes.specs.Shown.{blanks_under}
use Rattle.source_notes.proofs.shown.push_blanks_under.Given as goal

abbrev pub invariant-loop-at : goal.invariant-loop-at
invariant-loop-at l = l.text.items ++ blanks_under l.left (l.count - l.at) (drop l.at l.line) ≡ l.initial.text.items ++ blanks_under 0 l.count l.line
