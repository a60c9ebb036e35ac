use Rattle.mon_texts.specs.Memory.{goes_on_at}
use Rattle.mon_texts.proofs.Rows.{three}
use Rattle.mon_texts.proofs.memory.push_goes_on_at.Goals as goal

pub returns : goal.returns
unfolding goes_on_at
returns c = three _ _ _ _ _ _ _ c.in_ok-push_text.ensures.ok c.in_ok-push_address.ensures.ok
    c.in_ok-push_text-2.ensures.ok
