use Rattle.std.proofs.Common.{◌∷◌, []}
use Rattle.std.specs.List.{flat_map}
use Rattle.model.specs.Text.{address_part}
use Rattle.model.proofs.Written.{front_more}
use Rattle.replies.proofs.Writing.{Writes-then}
use Rattle.replies.proofs.views.put_break_list.Goals as goal

pub returns-in-Ok-clause-writes : goal.returns-in-Ok-clause-writes
returns-in-Ok-clause-writes g c =
    Writes-then _ _ _ (flat_map address_part c.args.session.now.breaks) (10 ∷ []) _ c.in-Ok.ensures.writes c.put.ensures.writes

pub returns-in-Err-clause-writes : goal.returns-in-Err-clause-writes
returns-in-Err-clause-writes g c =
    front_more _ _ (flat_map address_part c.args.session.now.breaks) (10 ∷ []) c.in-Err.ensures.writes
