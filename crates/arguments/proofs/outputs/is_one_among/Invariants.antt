use Rattle.std.proofs.Common.{◌≡◌, false, map, take}
use Rattle.std.specs.List.{list_any}
use Rattle.arguments.specs.Outputs.{is_named, named}
use Rattle.arguments.proofs.outputs.is_one_among.Given as goal

abbrev pub invariant-loop-other : goal.invariant-loop-other
invariant-loop-other g l = list_any (is_named l.name) (map named (take l.other-index l.others)) ≡ false
