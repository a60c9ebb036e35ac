use Rattle.t65_failures.proofs.Joined.{three}
use Rattle.t65_failures.proofs.detail.push_other_stack.Goals as goal

pub returns : goal.returns
returns c = three _ _ _ _ _ _ _ c.in_ok-push_named_byte.ensures c.in_ok-push_named_byte-2.ensures c.in_ok-push_str.ensures.bytes
