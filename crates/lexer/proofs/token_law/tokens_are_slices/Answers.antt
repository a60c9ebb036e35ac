use Rattle.lexer.proofs.Slices.{all_slices}
use Rattle.lexer.proofs.token_law.tokens_are_slices.Goals as goal

pub returns : goal.returns
returns c = all_slices
