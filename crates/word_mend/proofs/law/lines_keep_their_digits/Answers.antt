use Rattle.word_mend.proofs.KeptDigits.{kept_digits}
use Rattle.word_mend.proofs.law.lines_keep_their_digits.Goals as goal

pub returns : goal.returns
returns c = λ form line. kept_digits form line
