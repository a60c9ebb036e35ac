use Rattle.std.proofs.Common.{◌≡◌}
use Rattle.model.specs.Names.{number_in}
use Rattle.warnings.specs.Reaches.{reaches}
use Rattle.warnings.proofs.Reaching.{so_on}
use Rattle.warnings.proofs.written_numbers.reaches.Given as goal
use Rattle.warnings.specs.Views.{placed_views}

abbrev pub invariant-loop-one : goal.invariant-loop-one
invariant-loop-one l = so_on (number_in l.names) l.found.items l.one-index l.lines ≡ reaches (number_in l.names) (placed_views l.lines)
