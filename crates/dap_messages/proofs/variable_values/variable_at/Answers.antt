use Rattle.std.proofs.Common.{ap, ℕ}
use Rattle.dap_messages.proofs.Shown.{value_as}
use Rattle.dap_messages.specs.VariableValues.{variable_with}
use Rattle.dap_messages.proofs.variable_values.variable_at.Goals as goal

pub returns : goal.returns
returns c =
    value_as _ _ _ (ap (λ (number : ℕ). variable_with c.args.name.now c.args.address c.args.value.now number) c.word_number.ensures) c.variable_with.ensures
