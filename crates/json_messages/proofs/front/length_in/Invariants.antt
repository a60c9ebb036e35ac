use Rattle.std.proofs.Common.{◌≡◌, drop, true}
use Rattle.json_messages.specs.Messages.{length_in}
use Rattle.json_messages.proofs.front.length_in.Given as goal

abbrev pub invariant-loop-index : goal.invariant-loop-index
invariant-loop-index l = length_in true l.header ≡ length_in l.begins (drop l.index l.header)
