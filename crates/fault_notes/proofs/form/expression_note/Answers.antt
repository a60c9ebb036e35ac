use Rattle.fault_notes.proofs.Marked.{left_marked, marked_as, none_marked, not_marked}
use Rattle.fault_notes.proofs.form.expression_note.Goals as goal
use Rattle.fault_notes.proofs.form.expression_note.Goals.{in-Ok, in-Err-OutOfMemory, in-Err-Syntax}

pub returns : goal.returns
returns c = elim c.match-parse_expr.branch [
  | in-Ok w ↦ marked_as _ w.left_note.result _ _ w.result-is
      (left_marked c.args.index w.in-Ok.taken c.args.tokens.now _ _ w.split_at.ensures.back w.in-Ok.ensures.found) w.left_note.ensures
  | in-Err-OutOfMemory w ↦ not_marked _ _ _ w.result-is
  | in-Err-Syntax w ↦ marked_as _ w.no_value_note.result _ _ w.result-is
      (none_marked c.args.index c.args.tokens.now (w.in-Err-Syntax.ensures.syntax w.in-Err-Syntax.field-0-is)) w.no_value_note.ensures
]
