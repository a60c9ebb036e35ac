use Rattle.std.proofs.Common.{◌≡◌, drop}
use Rattle.t65_failures.specs.Faulty.{near_name}
use Rattle.t65_failures.proofs.faulty.near_name.Given as goal

abbrev pub invariant-loop-index : goal.invariant-loop-index
invariant-loop-index l = near_name (drop l.index l.names.names) l.word ≡ near_name l.names.names l.word
