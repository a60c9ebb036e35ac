use Rattle.t65_failures.proofs.Joined.{three}
use Rattle.t65_failures.proofs.detail.push_no_return.Goals as goal

pub returns : goal.returns
returns c = three _ _ _ _ _ _ _ c.in_ok-push_named_count.ensures c.in_ok-push_named_address.ensures c.in_ok-push_str.ensures.bytes
