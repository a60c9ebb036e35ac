use Rattle.std.proofs.Common.{◌≡◌, drop}
use Rattle.optable.specs.Names.{find_name}
use Rattle.optable.proofs.names.look_up.Given as goal

abbrev pub invariant-loop-name : goal.invariant-loop-name
invariant-loop-name l = find_name l.letters (drop l.name-index l.names) ≡ find_name l.letters l.names
