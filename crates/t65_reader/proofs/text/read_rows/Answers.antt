use Rattle.std.proofs.Common.{◌∙◌, ◌+◌, sym, ap, arith, map}
use Rattle.model.specs.TextLines.{lines_of}
use Rattle.t65_reader.specs.CPrograms.{program_view}
use Rattle.t65_reader.specs.RowText.{asking_view, line_view, rows_after, rows_from}
use Rattle.t65_reader.proofs.Rows.{after_fault, after_none, at_end, line_more}
use Rattle.t65_reader.proofs.Passed.{passed}
use Rattle.t65_reader.proofs.text.read_rows.Goals as goal

pub loop-rest-init : goal.loop-rest-init
loop-rest-init c = record {
  room = omega arith;
  rows = ap (λ front. rows_after (map line_view front) (rows_from (asking_view c.args.asking) c.args.names.now.names
      (program_view c.args.program.now) c.args.first (lines_of c.args.text.now))) c.new-lines.ensures.items ∙ after_none _;
}

pub loop-rest-preserved : goal.loop-rest-preserved
loop-rest-preserved c =
    let names = c.args.names.now.names in
    let program = program_view c.args.program.now in
    let n = c.loop-rest.number in
    let front = map line_view c.loop-rest.lines.items in
    record {
      room = omega (arith, c.next_line.ensures.shorter, c.loop-rest.invariant.room);
      rows = sym (c.in_ok-push_line.ensures.ok (rows_from (asking_view c.args.asking) names program (n + 1) (lines_of c.next_line.result.1.now)))
          ∙ (ap (rows_after front) (sym (ap (rows_from (asking_view c.args.asking) names program n) c.next_line.ensures.cut
          ∙ line_more (asking_view c.args.asking) names program n _ _)) ∙ c.loop-rest.invariant.rows);
    }

pub returns-in_err-push_line-clause-err : goal.returns-in_err-push_line-clause-err
returns-in_err-push_line-clause-err c =
    let names = c.args.names.now.names in
    let program = program_view c.args.program.now in
    let n = c.loop-rest.number in
    let front = map line_view c.loop-rest.lines.items in
    passed _ c.from_residual.result c.in_err-push_line.field-0.0 c.from_residual.ensures.1 (λ other. sym c.loop-rest.invariant.rows
    ∙ after_fault front _ _ (ap (rows_from (asking_view c.args.asking) names program n) c.next_line.ensures.cut
    ∙ (line_more (asking_view c.args.asking) names program n _ _
    ∙ c.in_err-push_line.ensures.err other (rows_from (asking_view c.args.asking) names program (n + 1) (lines_of c.next_line.result.1.now)))))

pub returns-clause-ok : goal.returns-clause-ok
returns-clause-ok c = sym c.loop-rest.invariant.rows ∙ at_end _ _ _ _ _ _ (omega arith)
