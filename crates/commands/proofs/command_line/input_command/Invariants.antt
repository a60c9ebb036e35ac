use Rattle.commands.proofs.Inputs.{Meets}
use Rattle.commands.proofs.command_line.input_command.Given as goal

-- the words up to the rest are bytes, and stand in their places
abbrev pub invariant-loop-count : goal.invariant-loop-count
invariant-loop-count l = Meets l.line l.bytes l.count l.rest
