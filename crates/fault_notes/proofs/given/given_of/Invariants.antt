use Rattle.std.proofs.Common.{◌≡◌, [], drop}
use Rattle.fault_notes.specs.Given.{given_of}
use Rattle.source_notes.specs.Lines.{texts_of}
use Rattle.fault_notes.proofs.given.given_of.Given as goal

abbrev pub invariant-loop-fault : goal.invariant-loop-fault
invariant-loop-fault l = given_of (texts_of l.lines) [] l.faults
    ≡ given_of (texts_of l.lines) l.given (drop l.fault-index l.faults)
