use Rattle.parser.proofs.Longest.{one_expression}
use Rattle.parser.proofs.law.one_expression.Goals as goal

pub returns : goal.returns
returns c = one_expression
