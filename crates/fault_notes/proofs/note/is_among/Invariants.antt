use Rattle.std.proofs.Common.{◌≡◌, drop}
use Rattle.std.specs.List.{list_any}
use Rattle.fault_notes.specs.Marks.{is_text}
use Rattle.fault_notes.proofs.note.is_among.Given as goal

abbrev pub invariant-loop-token : goal.invariant-loop-token
invariant-loop-token l = list_any (is_text l.name) l.tokens ≡ list_any (is_text l.name) (drop l.token-index l.tokens)
