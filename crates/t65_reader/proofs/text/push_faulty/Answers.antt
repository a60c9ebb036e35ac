use Rattle.std.proofs.Common.{◌∙◌, sym, ap, List, map, Bool, ℕ}
use Rattle.t65_reader.specs.RowText.{SeenLine, fault_before, faulty, line_view, one_before, points_in, rows_after}
use Rattle.t65_reader.proofs.Rows.{line_pushed}
use Rattle.t65_reader.proofs.text.push_faulty.Goals as goal

pub returns-clause-ok : goal.returns-clause-ok
returns-clause-ok c = λ behind.
    let front = map line_view c.args.lines.now.items in
    ap (λ (around : Bool). rows_after front (fault_before around (points_in c.args.line.now) c.args.fault behind))
    (sym c.is_around.ensures ∙ c.if-is_around.false)
    ∙ (ap (λ (n : ℕ). rows_after front (one_before (faulty (record { fault = c.args.fault; points = n })) behind)) (sym c.points_in-points.ensures)
    ∙ (line_pushed front (faulty (record { fault = c.args.fault; points = c.points_in-points.result })) behind
    ∙ ap (λ (lines : List SeenLine). rows_after lines behind) (sym c.in_ok-push_one.ensures.ok)))
