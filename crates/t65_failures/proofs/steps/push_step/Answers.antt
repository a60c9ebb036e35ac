use Rattle.std.proofs.Common.{◌++◌, ◌∙◌, ap}
use Rattle.std.specs.Prelude.{string_bytes}
use Rattle.formatting.specs.Padding.{padded}
use Rattle.model.specs.declared.registers.Regs.{Regs}
use Rattle.t65_failures.specs.Steps.{instruction_text, regs_text, source_text, step_text}
use Rattle.t65_failures.proofs.Joined.{five}
use Rattle.t65_failures.proofs.steps.push_step.Goals as goal

pub returns-clause-text : goal.returns-clause-text
unfolding step_text
returns-clause-text c =
    let row = c.in_ok-push_padded_row.ensures ∙ ap (λ (r : Regs). string_bytes c.push_str.new.self
    ++ padded 30 (instruction_text c.args.session.now.current r.pc)) c.regs-address.ensures in
    let regs = c.in_ok-push_regs.ensures ∙ ap (λ (r : Regs). string_bytes c.push_padded_row.new.text ++ regs_text r) c.regs.ensures in
    let source = c.in_ok-push_source_line.ensures ∙ ap (λ (r : Regs). string_bytes c.push_regs.new.text ++ source_text c.args.places.now r.pc)
    c.regs-address.ensures in
    five _ _ _ _ _ _ _ _ _ _ _ c.in_ok-push_str.ensures.bytes row regs source c.in_ok-push_str-2.ensures.bytes
