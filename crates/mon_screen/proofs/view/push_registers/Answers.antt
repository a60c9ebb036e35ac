use Rattle.std.proofs.Common.{◌∙◌, ◌++◌, ap}
use Rattle.mon_screen.specs.Cells.{written}
use Rattle.mon_screen.specs.View.{marks_row}
use Rattle.mon_screen.proofs.Texts.{rows_joined}
use Rattle.mon_screen.proofs.view.push_registers.Goals as goal

pub returns : goal.returns
returns c = rows_joined _ _ _ _ _ c.in_ok-push_state_row.ensures
    (c.in_ok-push_marks_row.ensures
    ∙ ap (λ r. c.push_state_row.new.text.items ++ written (marks_row c.args.view r)) c.regs.ensures)
