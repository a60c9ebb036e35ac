use Rattle.mon_texts.proofs.Rows.{three}
use Rattle.mon_session.proofs.mon_state.push_entry.Goals as goal

pub returns : goal.returns
returns c = three _ _ _ _ _ _ _ c.in_ok-push_text.ensures.ok c.in_ok-push_place.ensures.ok
    c.in_ok-push_text-2.ensures.ok
