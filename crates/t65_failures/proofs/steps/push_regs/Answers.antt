use Rattle.t65_failures.specs.Steps.{regs_text}
use Rattle.t65_failures.proofs.Joined.{five}
use Rattle.t65_failures.proofs.steps.push_regs.Goals as goal

pub returns : goal.returns
unfolding regs_text
returns c = five _ _ _ _ _ _ _ _ _ _ _ c.in_ok-push_named_byte.ensures c.in_ok-push_named_byte-2.ensures c.in_ok-push_named_byte-3.ensures
    c.in_ok-push_named_byte-4.ensures c.in_ok-push_status.ensures
