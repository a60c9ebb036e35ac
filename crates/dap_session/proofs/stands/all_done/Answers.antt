use Rattle.std.proofs.Common.{refl}
use Rattle.dap_session.proofs.stands.all_done.Goals as goal

pub returns : goal.returns
returns c = c.answered.ensures _ refl
