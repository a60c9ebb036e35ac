use Rattle.std.proofs.Common.{◌≡◌, drop}
use Rattle.std.specs.List.{find}
use Rattle.fault_notes.specs.Marks.{is_unknown, known_of}
use Rattle.fault_notes.proofs.note.unknown_token.Given as goal

abbrev pub invariant-loop-token : goal.invariant-loop-token
invariant-loop-token l = find (is_unknown (known_of l.context) l.at_once l.number l.tokens) l.operand
    ≡ find (is_unknown (known_of l.context) l.at_once l.number l.tokens) (drop l.token-index l.operand)
