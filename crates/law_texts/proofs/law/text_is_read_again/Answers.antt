use Rattle.law_texts.proofs.Rows.{row_again}
use Rattle.law_texts.proofs.law.text_is_read_again.Goals as goal

pub returns : goal.returns
returns c = row_again
