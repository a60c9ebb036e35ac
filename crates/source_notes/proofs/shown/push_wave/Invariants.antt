use Rattle.std.proofs.Common.{◌≡◌, ◌-◌, ◌++◌, replicate}
use Rattle.source_notes.proofs.shown.push_wave.Given as goal

abbrev pub invariant-loop : goal.invariant-loop
invariant-loop l = l.text.items ++ replicate (l.count - l.counter) 126 ≡ l.initial.text.items ++ replicate l.count 126
