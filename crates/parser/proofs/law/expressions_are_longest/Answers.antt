use Rattle.parser.proofs.Longest.{reads_longest}
use Rattle.parser.proofs.law.expressions_are_longest.Goals as goal

pub returns : goal.returns
returns c = reads_longest
