use Rattle.std.proofs.Common.{arith}
use Rattle.std.proofs.lemmas.Grind.{common_steps}
use Rattle.word_check.proofs.text.checked_text.Goals as goal

pub returns-clause-right : goal.returns-clause-right
returns-clause-right c = λ image denotes. grind (arith, common_steps, c.in_ok-faults.ensures.none image denotes, c.is_empty.ensures, c.if-is_empty.false)
