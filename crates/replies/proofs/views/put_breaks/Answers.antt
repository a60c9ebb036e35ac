use Rattle.std.proofs.Common.{◌++◌, ◌∷◌, [], subst, codes}
use Rattle.std.specs.List.{flat_map}
use Rattle.model.specs.Text.{address_part}
use Rattle.model.specs.Writers.{AppendsFront, Writes}
use Rattle.model.proofs.Written.{front_more}
use Rattle.replies.proofs.Writing.{Writes-then}
use Rattle.replies.proofs.Lists.{breaks_whole}
use Rattle.replies.proofs.views.put_breaks.Goals as goal

pub returns-in-Ok-clause-writes : goal.returns-in-Ok-clause-writes
returns-in-Ok-clause-writes g c =
    let breaks = c.args.session.now.breaks in
    subst (λ t. Writes (g.W.Write.contents c.args.writer.now) (g.W.Write.contents c.put_break_list.new.writer) t c.put_break_list.result) (breaks_whole breaks)
    (Writes-then _ _ _ (codes "BREAKS") (flat_map address_part breaks ++ 10 ∷ []) _ c.in-Ok.ensures.writes c.put_break_list.ensures.writes)

pub returns-in-Err-clause-writes : goal.returns-in-Err-clause-writes
returns-in-Err-clause-writes g c =
    let breaks = c.args.session.now.breaks in
    subst (λ t. AppendsFront (g.W.Write.contents c.args.writer.now) (g.W.Write.contents c.put.new.writer) t) (breaks_whole breaks)
    (front_more _ _ (codes "BREAKS") (flat_map address_part breaks ++ 10 ∷ []) c.in-Err.ensures.writes)
