use Rattle.json_messages.proofs.bodies.value_of.Goals as goal

pub returns-in-Ok : goal.returns-in-Ok
returns-in-Ok c = c.in-Ok.ensures.ok

pub returns-then-is_memory : goal.returns-then-is_memory
returns-then-is_memory c = tt
