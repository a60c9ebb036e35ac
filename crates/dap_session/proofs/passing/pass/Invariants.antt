use Rattle.std.proofs.Common.{map}
use Rattle.dap_messages.specs.Messages.{said_of}
use Rattle.dap_session.specs.Passes.{Passes}
use Rattle.dap_session.proofs.passing.pass.Given as goal

-- the move has gone on so often
abbrev pub invariant-loop : goal.invariant-loop
invariant-loop l = Passes l.counter l.further l.fn.client (map said_of l.fn.messages.items) l.client (map said_of l.said.items)
