use Rattle.mon_steps.specs.RunTexts.{shown_end_text}
use Rattle.mon_steps.proofs.Rows.{behind}
use Rattle.mon_steps.proofs.stepping.show_call.Goals as goal

pub returns-clause-text : goal.returns-clause-text
returns-clause-text c =
    behind c.show_end.result c.args.mon.now.text.items c.call_with_row.new.mon.text.items c.show_end.new.mon.text.items _ _ _
    c.in_ok-end.ensures.text
    (λ i. shown_end_text (c.in_ok-end.ensures.session i).current (c.call_with_row.ensures.watches.2 i) (c.in_ok-end.ensures.end i) (c.at-begun.ensures i))
    c.show_end.ensures.text
