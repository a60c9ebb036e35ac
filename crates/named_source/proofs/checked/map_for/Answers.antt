use Rattle.std.proofs.Common.{◌≡◌, None, true, false, refl}
use Rattle.std.proofs.lemmas.Bool.{both_ways}
use Rattle.model.specs.State.{is_map, no_port}
use Rattle.named_source.proofs.checked.map_for.Goals as goal

is_one : is_map None no_port ≡ true
unfolding is_map
is_one = refl

pub returns-in_default-clause-none : goal.returns-in_default-clause-none
returns-in_default-clause-none c = both_ways (is_map None no_port) (c.in_default.ensures.bad.0 refl) is_one
