use Rattle.std.proofs.Common.{◌∙◌, ◌++◌, ap}
use Rattle.trace_rows.specs.Steps.{regs_text}
use Rattle.trace_rows.proofs.Rows.{five}
use Rattle.trace_rows.proofs.steps.push_regs.Goals as goal

pub returns : goal.returns
unfolding regs_text
returns c = five _ _ _ _ _ _ _ _ _ _ _ c.in_ok-push_named.ensures c.in_ok-push_named-2.ensures
    c.in_ok-push_named-3.ensures c.in_ok-push_named-4.ensures
    (c.in_ok-extend_from_slice.ensures.items
    ∙ ap (λ t. c.push_named-4.new.text.items ++ t) c.letters.ensures)
