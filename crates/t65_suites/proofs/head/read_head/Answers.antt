use Rattle.std.proofs.Common.{◌∙◌, sym, ap, arith}
use Rattle.std.specs.Prelude.{Err, Result}
use Rattle.model.specs.TextLines.{lines_of}
use Rattle.t65_suites.specs.HeadText.{SeenHead, head_from, head_in_line}
use Rattle.t65_values.specs.declared.fault.RowFault.{RowFault}
use Rattle.t65_values.specs.declared.fault.TextFault.{TextFault}
use Rattle.t65_suites.proofs.Heads.{headed, skipped, unheaded}
use Rattle.t65_suites.proofs.head.read_head.Goals as goal

pub returns-in-Ok-clause-ok : goal.returns-in-Ok-clause-ok
returns-in-Ok-clause-ok c =
    let line = c.next_line.result.0.now in
    let lines = lines_of c.next_line.result.1.now in
    let n = c.loop-rest.number in
    sym c.loop-rest.invariant.left
    ∙ (ap (head_from n) c.next_line.ensures.cut
    ∙ (headed n line c.skip_blanks-front.result.now lines c.skip_blanks-front.ensures (sym c.ends.ensures ∙ c.if-not-ends.true)
    ∙ ap (λ (read : Result SeenHead RowFault). head_in_line n line lines read) c.in-Ok.ensures.ok))

pub returns-in-Err-clause-err : goal.returns-in-Err-clause-err
returns-in-Err-clause-err c =
    let line = c.next_line.result.0.now in
    let lines = lines_of c.next_line.result.1.now in
    let n = c.loop-rest.number in
    sym c.loop-rest.invariant.left
    ∙ (ap (head_from n) c.next_line.ensures.cut
    ∙ (headed n line c.skip_blanks-front.result.now lines c.skip_blanks-front.ensures (sym c.ends.ensures ∙ c.if-not-ends.true)
    ∙ (ap (λ (read : Result SeenHead RowFault). head_in_line n line lines read) c.in-Err.ensures.err
    ∙ ap (λ (fault : TextFault). Err fault) (sym c.fault_of.ensures))))

pub loop-rest-preserved : goal.loop-rest-preserved
loop-rest-preserved c = record {
  room = omega (arith, c.next_line.ensures.shorter, c.loop-rest.invariant.room);
  left = sym (ap (head_from c.loop-rest.number) c.next_line.ensures.cut
      ∙ skipped c.loop-rest.number c.next_line.result.0.now c.skip_blanks-front.result.now (lines_of c.next_line.result.1.now)
      c.skip_blanks-front.ensures (sym c.ends.ensures ∙ c.if-not-ends.false))
      ∙ c.loop-rest.invariant.left;
}

pub returns-clause-err : goal.returns-clause-err
returns-clause-err c = sym c.loop-rest.invariant.left ∙ unheaded c.loop-rest.number c.loop-rest.rest.now (omega arith)
