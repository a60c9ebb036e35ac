use Rattle.std.proofs.Common.{rules}
use Rattle.mon_steps.specs.RunTexts.{step_row, step_text}
use Rattle.mon_steps.proofs.Rows.{row_said}
use Rattle.mon_steps.proofs.stepping.show_step.Goals as goal

pub returns-clause-text : goal.returns-clause-text
returns-clause-text c =
    row_said c.tell_step.result
    (λ row. step_text c.entry_is_due-is_entry.result c.step_with_row.new.mon.session.current c.step_with_row.new.mon.places c.in_ok-end.end row)
    c.args.mon.now.text.items c.step_with_row.new.mon.text.items c.tell_step.new.mon.text.items _ _ c.len-length.result
    (search rules) c.in_ok-end.ensures.text
    (λ i. step_text (c.entry_is_due-is_entry.ensures i) (c.in_ok-end.ensures.session i).current (c.step_with_row.ensures.watches.2 i)
    (c.in_ok-end.ensures.end i)
    (step_row c.args.mon.now.session.current (c.in_ok-end.ensures.session i).current c.args.mon.now.places))
    c.tell_step.ensures.text
