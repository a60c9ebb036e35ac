use Rattle.std.proofs.Common.{◌≡◌, drop}
use Rattle.std.specs.List.{find}
use Rattle.fault_notes.specs.Marks.{is_reserved}
use Rattle.fault_notes.proofs.note.reserved_among.Given as goal

abbrev pub invariant-loop-token : goal.invariant-loop-token
invariant-loop-token l = find (is_reserved l.profile) l.tokens ≡ find (is_reserved l.profile) (drop l.token-index l.tokens)
