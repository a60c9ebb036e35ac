use Rattle.std.proofs.Common.{refl}
use Rattle.dap_session.proofs.answering.go_first.Goals as goal

pub returns : goal.returns
returns c = c.go.ensures _ (c.answered.ensures _ refl)
