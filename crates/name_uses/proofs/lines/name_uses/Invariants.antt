use Rattle.std.proofs.Common.{◌≡◌, ◌+◌, ◌≤◌, ◌++◌, length}
use Rattle.name_uses.proofs.Steps.{lines_left}
use Rattle.name_uses.specs.Uses.{uses_of}
use Rattle.name_uses.specs.Views.{use_views}
use Rattle.name_uses.proofs.lines.name_uses.Given as goal

abbrev pub invariant-loop-rest : goal.invariant-loop-rest
invariant-loop-rest l = record {
  found : use_views l.uses.items ++ lines_left l.profile l.number l.rest ≡ uses_of l.profile l.source;
  room : l.number + length l.rest ≤ 1048577;
}

abbrev pub decreases-loop-rest : goal.decreases-loop-rest
decreases-loop-rest l = length l.rest
