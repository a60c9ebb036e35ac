use Rattle.std.proofs.Common.{◌≡◌, drop}
use Rattle.word_trace.specs.Notes.{are_written}
use Rattle.word_trace.proofs.notes.are_written.Given as goal

abbrev pub invariant-loop-address : goal.invariant-loop-address
invariant-loop-address l = are_written l.written (drop l.address-index l.addresses.items) ≡ are_written l.written l.addresses.items
