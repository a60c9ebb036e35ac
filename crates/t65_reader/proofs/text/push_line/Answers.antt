use Rattle.std.proofs.Common.{◌∙◌, sym, ap, List, map}
use Rattle.t65_reader.specs.RowText.{SeenLine, line_before, line_view, readable, row_view, rows_after}
use Rattle.std.specs.Prelude.{Ok, Option}
use Rattle.std.specs.Option.{option_map}
use Rattle.t65_reader.specs.declared.row.Row.{Row}
use Rattle.t65_reader.proofs.Rows.{line_pushed}
use Rattle.t65_reader.proofs.text.push_line.Goals as goal

pub returns-in_ok-push_one-in-Ok-Some-clause-ok : goal.returns-in_ok-push_one-in-Ok-Some-clause-ok
returns-in_ok-push_one-in-Ok-Some-clause-ok c = λ behind.
    ap (λ line. rows_after (map line_view c.args.lines.now.items) (line_before c.args.number c.args.line.now line behind))
    (c.in-Ok-Some.ensures.ok ∙ ap (λ (found : Option Row). Ok (option_map row_view found)) c.in-Ok-Some.field-0-is)
    ∙ (line_pushed (map line_view c.args.lines.now.items) (readable (c.args.number, row_view c.in-Ok-Some.row)) behind
    ∙ ap (λ (lines : List SeenLine). rows_after lines behind) (sym c.in_ok-push_one-in-Ok-Some.ensures.ok))
