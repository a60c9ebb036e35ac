use Rattle.std.proofs.Common.{◌∙◌, ◌++◌, ◌∷◌, [], length, subst, codes}
use Rattle.std.specs.Prelude.{decimal}
use Rattle.model.specs.Writers.{AppendsFront, Writes}
use Rattle.replies.specs.Output.{output_rows}
use Rattle.model.proofs.Written.{front_more}
use Rattle.replies.proofs.Writing.{Writes-then}
use Rattle.replies.proofs.Rows.{output_whole}
use Rattle.replies.proofs.views.put_output.Goals as goal

pub returns-in-Ok-clause-writes : goal.returns-in-Ok-clause-writes
returns-in-Ok-clause-writes g c =
    let out = c.args.session.now.current.bus.out in
    let head = c.as_slice.ensures.value ∙ c.output_head.ensures in
    let part = rw head at c.in-Ok.ensures.writes in
    subst (λ t. Writes (g.W.Write.contents c.args.writer.now) (g.W.Write.contents c.put_output_rows.new.writer) t c.put_output_rows.result) (output_whole out)
    (Writes-then _ _ _ (codes "OUT " ++ decimal (length out) ++ 10 ∷ []) (output_rows out) _ part c.put_output_rows.ensures.writes)

pub returns-in-Err-clause-writes : goal.returns-in-Err-clause-writes
returns-in-Err-clause-writes g c =
    let out = c.args.session.now.current.bus.out in
    let head = c.as_slice.ensures.value ∙ c.output_head.ensures in
    let part = rw head at c.in-Err.ensures.writes in
    subst (λ t. AppendsFront (g.W.Write.contents c.args.writer.now) (g.W.Write.contents c.put.new.writer) t) (output_whole out)
    (front_more _ _ (codes "OUT " ++ decimal (length out) ++ 10 ∷ []) (output_rows out) part)
