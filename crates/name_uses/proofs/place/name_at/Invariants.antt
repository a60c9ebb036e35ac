use Rattle.std.proofs.Common.{◌≡◌, drop}
use Rattle.std.specs.List.{find}
use Rattle.name_uses.specs.Places.{covers}
use Rattle.name_uses.specs.Views.{use_views}
use Rattle.name_uses.proofs.place.name_at.Given as goal

abbrev pub invariant-loop-one : goal.invariant-loop-one
invariant-loop-one l = find (covers l.line l.column) (use_views l.uses) ≡ find (covers l.line l.column) (use_views (drop l.one-index l.uses))
