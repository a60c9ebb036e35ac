use Rattle.std.proofs.Common.{◌≡◌, ◌++◌, drop}
use Rattle.source_notes.specs.Shown.{shown_from}
use Rattle.source_notes.proofs.shown.push_shown.Given as goal

abbrev pub invariant-loop-at : goal.invariant-loop-at
invariant-loop-at l = l.text.items ++ shown_from l.left (drop l.at l.line) ≡ l.initial.text.items ++ shown_from 0 l.line
