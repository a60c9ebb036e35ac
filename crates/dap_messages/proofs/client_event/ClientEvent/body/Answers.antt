use Rattle.dap_messages.proofs.client_event.ClientEvent.body.Goals as goal

pub returns-in-Initialized : goal.returns-in-Initialized
returns-in-Initialized c = rw c.in-Initialized.is c.nothing.ensures

pub returns-in-Terminated : goal.returns-in-Terminated
returns-in-Terminated c = rw c.in-Terminated.is c.nothing-in-Terminated.ensures

pub returns-in-Invalidated : goal.returns-in-Invalidated
returns-in-Invalidated c = rw c.in-Invalidated.is c.invalidated_body.ensures

pub returns-in-Output : goal.returns-in-Output
returns-in-Output c = rw (c.in-Output.is, ← c.word.ensures, ← c.as_str.ensures.value) c.output_body.ensures

pub returns-in-Stopped : goal.returns-in-Stopped
returns-in-Stopped c = rw (c.in-Stopped.is, ← c.as_str-in-Stopped.ensures.value, ← c.as_slice.ensures.value) c.stopped_body.ensures
