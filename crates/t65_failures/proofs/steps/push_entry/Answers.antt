use Rattle.std.proofs.Common.{◌++◌, ◌∙◌, ap}
use Rattle.std.specs.Prelude.{string_bytes}
use Rattle.model.specs.declared.registers.Regs.{Regs}
use Rattle.t65_failures.specs.Steps.{arrival_text, regs_text}
use Rattle.t65_failures.proofs.Joined.{four}
use Rattle.t65_failures.proofs.steps.push_entry.Goals as goal

pub returns-clause-text : goal.returns-clause-text
unfolding arrival_text
returns-clause-text c =
    let regs = c.in_ok-push_regs.ensures ∙ ap (λ (r : Regs). string_bytes c.push_padded_signal.new.text ++ regs_text r) c.regs.ensures in
    four _ _ _ _ _ _ _ _ _ c.in_ok-push_str.ensures.bytes c.in_ok-push_padded_signal.ensures regs c.in_ok-push_str-2.ensures.bytes
