use Rattle.mon_texts.specs.Registers.{flags_text}
use Rattle.mon_texts.proofs.Rows.{six}
use Rattle.mon_texts.proofs.state.push_lines.Goals as goal

pub returns : goal.returns
unfolding flags_text
returns c = six _ _ _ _ _ _ _ _ _ _ _ _ _ c.in_ok-push_flag.ensures c.in_ok-push_flag-2.ensures
    c.in_ok-push_flag-3.ensures c.in_ok-push_flag-4.ensures c.in_ok-push_flag-5.ensures
    c.in_ok-push_flag-6.ensures
