use Rattle.std.proofs.Common.{◌≡◌, drop}
use Rattle.accesses.specs.Writing.{with_bytes}
use Rattle.accesses.proofs.written.Written.note_all.Given as goal

abbrev pub invariant-loop-address : goal.invariant-loop-address
invariant-loop-address l = with_bytes l.self (drop l.address-index l.addresses.items) ≡ with_bytes l.fn.self l.addresses.items
