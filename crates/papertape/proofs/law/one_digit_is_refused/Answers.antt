use Rattle.papertape.proofs.Changed.{one_digit}
use Rattle.papertape.proofs.law.one_digit_is_refused.Goals as goal

pub returns : goal.returns
returns c = one_digit
