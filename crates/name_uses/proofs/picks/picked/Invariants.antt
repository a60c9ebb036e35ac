use Rattle.std.proofs.Common.{◌≡◌, ◌++◌}
use Rattle.name_uses.specs.Picked.{picked}
use Rattle.name_uses.specs.Views.{use_views}
use Rattle.name_uses.proofs.PickedSteps.{picked_left}
use Rattle.name_uses.proofs.picks.picked.Given as goal

abbrev pub invariant-loop-one : goal.invariant-loop-one
invariant-loop-one l = use_views l.found.items ++ picked_left l.part l.name l.uses l.one-index ≡ picked l.part l.name (use_views l.uses)
