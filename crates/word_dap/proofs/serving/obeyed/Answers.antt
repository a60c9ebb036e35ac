use Rattle.std.proofs.Common.{refl}
use Rattle.word_dap.proofs.serving.obeyed.Goals as goal

pub returns : goal.returns
returns g c = (refl, c.in_ok-asked.asked, c.in_ok-asked.ensures, c.in_ok-messages.ensures, c.asks_run-is_run.ensures, c.asks_end-is_end.ensures)
