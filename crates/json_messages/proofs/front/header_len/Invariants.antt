use Rattle.std.proofs.Common.{◌≡◌, drop}
use Rattle.json_messages.specs.Messages.{header_from}
use Rattle.json_messages.proofs.front.header_len.Given as goal

abbrev pub invariant-loop-index : goal.invariant-loop-index
invariant-loop-index l = header_from 0 l.bytes ≡ header_from l.index (drop l.index l.bytes)
