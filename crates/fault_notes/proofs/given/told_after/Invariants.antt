use Rattle.std.proofs.Common.{◌≡◌, ◌∷◌, ◌++◌, drop, filter}
use Rattle.fault_notes.specs.Given.{is_told}
use Rattle.source_notes.specs.Lines.{texts_of}
use Rattle.fault_notes.proofs.given.told_after.Given as goal

abbrev pub invariant-loop-fault : goal.invariant-loop-fault
invariant-loop-fault l = l.fn.first ∷ filter (is_told (texts_of l.lines) l.given) l.others
    ≡ l.told.items ++ filter (is_told (texts_of l.lines) l.given) (drop l.fault-index l.others)
