use Rattle.std.proofs.Common.{◌∙◌, ◌+◌, sym, ap, arith}
use Rattle.model.specs.TextLines.{lines_of}
use Rattle.t65_reader.specs.RowText.{points_of}
use Rattle.t65_reader.proofs.Rows.{no_points, points_more}
use Rattle.t65_reader.proofs.text.points_of.Goals as goal

pub loop-rest-preserved : goal.loop-rest-preserved
loop-rest-preserved c = record {
  room = omega (arith, c.next_line.ensures.shorter, c.loop-rest.invariant.room);
  left = points_more c.args.only.now c.loop-rest.points c.next_line.result.0.now (lines_of c.next_line.result.1.now) _ _ c.worth_of.ensures
      (ap (λ n. c.loop-rest.points + n) (sym (ap (points_of c.args.only.now) c.next_line.ensures.cut)) ∙ c.loop-rest.invariant.left);
}

pub returns : goal.returns
returns c = no_points c.args.only.now _ c.loop-rest.rest.now _ (omega arith) c.loop-rest.invariant.left
