use Rattle.std.proofs.Common.{◌≡◌, ◌≤◌, drop}
use Rattle.json_messages.specs.Messages.{most_body, number_from}
use Rattle.json_messages.proofs.front.number_in.Given as goal

abbrev pub invariant-loop-byte : goal.invariant-loop-byte
invariant-loop-byte l = (number_from 0 l.bytes ≡ number_from l.number (drop l.byte-index l.bytes)) × (l.number ≤ most_body)
