use Rattle.dap_messages.specs.Seen.{evaluate, set_variable, write_memory}
use Rattle.dap_messages.proofs.reading.change_by.Goals as goal

pub returns-in-Evaluate : goal.returns-in-Evaluate
returns-in-Evaluate c = rw c.in-Evaluate.is
    (λ i. evaluate (c.text_or.ensures i) (c.is_console.ensures i) (c.number_at.ensures i))

pub returns-in-SetVariable : goal.returns-in-SetVariable
returns-in-SetVariable c = rw c.in-SetVariable.is
    (λ i. set_variable (c.scope_in.ensures i) (c.text_or-in-SetVariable.ensures i) (c.text_or-in-SetVariable-2.ensures i))

pub returns-in-SetExpression : goal.returns-in-SetExpression
returns-in-SetExpression c = rw c.in-SetExpression.is c.expression_change.ensures

pub returns-in-WriteMemory : goal.returns-in-WriteMemory
returns-in-WriteMemory c = rw c.in-WriteMemory.is
    (λ i. write_memory (c.memory_in.ensures i) (c.text_or-in-WriteMemory.ensures i) (c.flag_or.ensures i))
