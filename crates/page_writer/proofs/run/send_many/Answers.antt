use Rattle.std.proofs.Common.{◌<◌, List, ℕ, get_or, subst}
use Rattle.page_data.proofs.Pushing.{on_ok}
use Rattle.page_writer.proofs.Sending.{none_sent, safely}
use Rattle.page_writer.proofs.run.send_many.Goals as goal

pub returns-then-len-lt-FULL : goal.returns-then-len-lt-FULL
returns-then-len-lt-FULL g c = none_sent _ c.args.pending.now.items

pub returns : goal.returns
returns g c =
    let small = subst (λ (l : List ℕ). (k : ℕ) → get_or l k 0 < 256) c.as_slice.ensures.value c.has_bytes.ensures in
    on_ok c.send_groups.result _ _ c.send_groups.ensures (safely _ _ c.args.pending.now.items c.send_groups.new.pending.items small)
