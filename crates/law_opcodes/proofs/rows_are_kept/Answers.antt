use Rattle.law_opcodes.proofs.Encoding.{row_kept}
use Rattle.law_opcodes.proofs.rows_are_kept.Goals as goal

pub returns : goal.returns
returns c = row_kept
